use Rattle.std.proofs.Common.{◌++◌, All, List, ap, map, subst}
use Rattle.std.specs.List.{flat_map}
use Rattle.std.proofs.lemmas.List.Elements.{All-head, All-rest}
use Rattle.wc_world.specs.Views.{NamedWorldAdapter}
use Rattle.wc_world.specs.WorldViews.{adapter_entry}
use Rattle.wc_plan.specs.Calls.{Wanted, wanted_by}
use Rattle.wc_plan.specs.Fault.{IsPlanRefusal}
use Rattle.wc_plan.specs.Planner.{IsPlanned, world_in}
use Rattle.wc_world.specs.Nameable.{AreModuleNameable}
use Rattle.wc_plan.specs.Views.{adapter_owner}
use Rattle.wc_plan.proofs.ProgressLemmas.{flat_here}
use Rattle.wc_world.proofs.FaultLemmas.{passed_on}
use Rattle.wc_plan.proofs.planner.add_adapters.Goals as goal

pub loop-name-preserved : goal.loop-name-preserved
loop-name-preserved c = record {
  counted = c.in_ok-add_module.ensures.counted;
  nameable = All-rest (λ (a : NamedWorldAdapter). AreModuleNameable (world_in c.args.context).encoder.resolve a.1.info)
      (adapter_entry (c.in-Some.name.now, c.in-Some.adapter.now)) (map adapter_entry c.next.new.self) (map adapter_entry c.loop-name.name-iterator)
      (ap (map adapter_entry) c.in-Some.ensures.steps) c.loop-name.invariant.nameable;
  planned = λ rest p. c.in_ok-add_module.ensures.made
      (flat_map (λ (a : NamedWorldAdapter). wanted_by (world_in c.args.context).encoder.resolve (adapter_owner a.0) a.1.info)
      (map adapter_entry c.next.new.self) ++ rest)
      (flat_here (world_in c.args.context).adapters (λ (xs : List Wanted). IsPlanned (world_in c.args.context) xs c.args.planner.now)
      (λ (xs : List Wanted). IsPlanned (world_in c.args.context) xs c.loop-name.planner)
      (λ (a : NamedWorldAdapter). wanted_by (world_in c.args.context).encoder.resolve (adapter_owner a.0) a.1.info)
      (map adapter_entry c.loop-name.name-iterator) (map adapter_entry c.next.new.self)
      (adapter_entry (c.in-Some.name.now, c.in-Some.adapter.now)) (ap (map adapter_entry) c.in-Some.ensures.steps) c.loop-name.invariant.planned rest p);
}

pub returns-in_err-add_module-clause-fault : goal.returns-in_err-add_module-clause-fault
returns-in_err-add_module-clause-fault c = λ rest p.
    passed_on (IsPlanRefusal (world_in c.args.context)) c.from_residual.result _ c.from_residual.ensures.1
    (c.in_err-add_module.ensures.fault (flat_map (λ (a : NamedWorldAdapter). wanted_by (world_in c.args.context).encoder.resolve
    (adapter_owner a.0) a.1.info) (map adapter_entry c.next.new.self) ++ rest)
    (flat_here (world_in c.args.context).adapters (λ (xs : List Wanted). IsPlanned (world_in c.args.context) xs c.args.planner.now)
    (λ (xs : List Wanted). IsPlanned (world_in c.args.context) xs c.loop-name.planner)
    (λ (a : NamedWorldAdapter). wanted_by (world_in c.args.context).encoder.resolve (adapter_owner a.0) a.1.info)
    (map adapter_entry c.loop-name.name-iterator) (map adapter_entry c.next.new.self)
    (adapter_entry (c.in-Some.name.now, c.in-Some.adapter.now)) (ap (map adapter_entry) c.in-Some.ensures.steps) c.loop-name.invariant.planned rest p))

pub add_module-requires-clause-nameable : goal.add_module-requires-clause-nameable
add_module-requires-clause-nameable c =
    All-head (λ (a : NamedWorldAdapter). AreModuleNameable (world_in c.args.context).encoder.resolve a.1.info)
    (adapter_entry (c.in-Some.name.now, c.in-Some.adapter.now)) (map adapter_entry c.next.new.self)
    (subst (All (λ (a : NamedWorldAdapter). AreModuleNameable (world_in c.args.context).encoder.resolve a.1.info))
    (ap (map adapter_entry) c.in-Some.ensures.steps) c.loop-name.invariant.nameable)
