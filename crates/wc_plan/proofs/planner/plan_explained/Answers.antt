use Rattle.std.proofs.Common.{map}
use Rattle.wc_world.specs.WorldViews.{world_view}
use Rattle.wc_plan.specs.PlanViews.{use_view}
use Rattle.wc_plan.specs.Fault.{IsPlanRefusal, RefusedPlan}
use Rattle.wc_plan.specs.Planner.{IsPlanFault, seen_view}
use Rattle.wc_plan.proofs.FaultLemmas.{fault_of_refusal}
use Rattle.wc_plan.proofs.ProgressLemmas.{planned_start, progress_end}
use Rattle.wc_world.proofs.FaultLemmas.{passed_on}
use Rattle.wc_plan.proofs.planner.plan_explained.Goals as goal

pub returns-in_err-add_modules-clause-fault : goal.returns-in_err-add_modules-clause-fault
returns-in_err-add_modules-clause-fault c =
    passed_on (λ (x : RefusedPlan). IsPlanFault (world_view c.args.world.now) x.fault) c.from_residual.result _ c.from_residual.ensures.1
    (fault_of_refusal (world_view c.args.world.now) _ (c.in_err-add_modules.ensures.fault
    (planned_start (world_view c.args.world.now) c.with_hasher.result.keys c.new.result.items c.with_hasher.ensures.empty c.new.ensures.items)))

pub returns-in_err-add_modules-clause-place : goal.returns-in_err-add_modules-clause-place
returns-in_err-add_modules-clause-place c =
    passed_on (IsPlanRefusal (world_view c.args.world.now)) c.from_residual.result _ c.from_residual.ensures.1
    (c.in_err-add_modules.ensures.fault
    (planned_start (world_view c.args.world.now) c.with_hasher.result.keys c.new.result.items c.with_hasher.ensures.empty c.new.ensures.items))

pub returns-clause-plan : goal.returns-clause-plan
returns-clause-plan c =
    (progress_end (world_view c.args.world.now) (map seen_view c.add_modules.new.planner.seen.keys)
    (map use_view c.add_modules.new.planner.uses.items) c.add_modules.new.planner.slots
    (c.in_ok-add_modules.ensures.made (planned_start
    (world_view c.args.world.now) c.with_hasher.result.keys c.new.result.items c.with_hasher.ensures.empty c.new.ensures.items))).0

pub returns-clause-servable : goal.returns-clause-servable
returns-clause-servable c =
    (progress_end (world_view c.args.world.now) (map seen_view c.add_modules.new.planner.seen.keys)
    (map use_view c.add_modules.new.planner.uses.items) c.add_modules.new.planner.slots
    (c.in_ok-add_modules.ensures.made (planned_start
    (world_view c.args.world.now) c.with_hasher.result.keys c.new.result.items c.with_hasher.ensures.empty c.new.ensures.items))).1
