use Rattle.wc_plan.specs.PlanViews.{plan_view}
use Rattle.wc_world.specs.WorldViews.{world_view}
use Rattle.wc_calls.proofs.PlannedWorldLemmas.{memory_of_plan, planned_text}
use Rattle.wc_calls.proofs.RefusalLemmas.{plan_refused}
use Rattle.wc_calls.proofs.planned_worlds.answer_of_world.Goals as goal

pub returns-in-Ok-clause-answer : goal.returns-in-Ok-clause-answer
returns-in-Ok-clause-answer c =
    planned_text (world_view c.args.world.now) (plan_view c.in-Ok.plan) c.answer_of_plan.result c.in-Ok.ensures.servable c.in-Ok.ensures.plan
    c.answer_of_plan.ensures.modules c.answer_of_plan.ensures.json

pub returns-in-Ok-clause-refusal : goal.returns-in-Ok-clause-refusal
returns-in-Ok-clause-refusal c = memory_of_plan (world_view c.args.world.now) c.answer_of_plan.result c.answer_of_plan.ensures.fault

pub returns-in-Err-clause-refusal : goal.returns-in-Err-clause-refusal
returns-in-Err-clause-refusal c =
    plan_refused (world_view c.args.world.now) c.in-Err.refused c.plan_refusal.result c.in-Err.ensures.place c.plan_refusal.ensures
