use Rattle.std.proofs.Common.{◌∙◌}
use Rattle.wc_plan.specs.Fault.{IsPlanRefusal}
use Rattle.wc_plan.specs.Planner.{owner_in, wanted_call, world_in}
use Rattle.wc_plan.proofs.ProgressLemmas.{planned_fault, planned_new, planned_seen}
use Rattle.wc_world.proofs.FaultLemmas.{passed_on}
use Rattle.wc_plan.proofs.planner.add_call.Goals as goal

pub returns-then-not-is_new-clause-made : goal.returns-then-not-is_new-clause-made
returns-then-not-is_new-clause-made c = λ rest p.
    planned_seen (world_in c.args.context) (wanted_call c.args.importer c.args.call) rest c.args.planner.now.seen.keys c.insert.new.self.keys
    (c.args.importer.owner, c.in_ok-copy.copy) c.args.planner.now.uses.items c.args.planner.now.slots c.in_ok-is_new.is_new
    (c.in_ok-copy.ensures (owner_in c.args.importer.owner)) c.in_ok-is_new.ensures.added c.in_ok-is_new.ensures.keys p c.if-not-is_new.true

pub returns-in_err-one-clause-fault : goal.returns-in_err-one-clause-fault
returns-in_err-one-clause-fault c = λ rest p.
    passed_on (IsPlanRefusal (world_in c.args.context)) c.from_residual-in_err-one.result _ c.from_residual-in_err-one.ensures.1
    (planned_fault (world_in c.args.context) (wanted_call c.args.importer c.args.call) rest c.args.planner.now.seen.keys c.insert.new.self.keys
    (c.args.importer.owner, c.in_ok-copy.copy) c.args.planner.now.uses.items c.args.planner.now.slots c.in_ok-is_new.is_new
    (c.in_ok-copy.ensures (owner_in c.args.importer.owner)) c.in_ok-is_new.ensures.added c.in_ok-is_new.ensures.keys p _ c.if-not-is_new.false
    c.in_err-one.ensures.fault)

pub returns-clause-made : goal.returns-clause-made
returns-clause-made c = λ rest p.
    planned_new (world_in c.args.context) (wanted_call c.args.importer c.args.call) rest c.args.planner.now.seen.keys c.push_use.new.planner.seen.keys
    (c.args.importer.owner, c.in_ok-copy.copy) c.args.planner.now.uses.items c.args.planner.now.slots c.in_ok-is_new.is_new
    (c.in_ok-copy.ensures (owner_in c.args.importer.owner)) c.in_ok-is_new.ensures.added (c.in_ok-push_use.ensures.seen
    ∙ c.in_ok-is_new.ensures.keys) p c.in_ok-one.one c.push_use.new.planner.uses.items c.push_use.new.planner.slots c.if-not-is_new.false
    c.in_ok-one.ensures.servable c.in_ok-one.ensures.made c.in_ok-push_use.ensures.uses c.in_ok-push_use.ensures.slots
