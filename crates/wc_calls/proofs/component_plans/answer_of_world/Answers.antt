use Rattle.wc_world.specs.WorldViews.{world_view}
use Rattle.wc_calls.proofs.RefusalLemmas.{plan_refused}
use Rattle.wc_calls.proofs.component_plans.answer_of_world.Goals as goal

pub returns-in-Err-clause-refusal : goal.returns-in-Err-clause-refusal
returns-in-Err-clause-refusal c =
    plan_refused (world_view c.args.world.now) c.in-Err.refused c.plan_refusal.result c.in-Err.ensures.place c.plan_refusal.ensures
