use Rattle.std.proofs.Common.{All, List, map}
use Rattle.wc_world.specs.Views.{NamedWorldAdapter}
use Rattle.wc_world.specs.WorldViews.{adapter_entry}
use Rattle.wc_plan.specs.Calls.{Wanted, wanted_by}
use Rattle.wc_plan.specs.Planner.{IsCounted, IsPlanned, world_in}
use Rattle.wc_world.specs.Nameable.{AreModuleNameable}
use Rattle.wc_plan.specs.Views.{adapter_owner}
use Rattle.wc_plan.proofs.ProgressLemmas.{FlatWalked}
use Rattle.wc_plan.proofs.planner.add_adapters.Given as goal

abbrev pub invariant-loop-name : goal.invariant-loop-name
invariant-loop-name l = record {
  counted : IsCounted l.planner;
  nameable : All (λ (a : NamedWorldAdapter). AreModuleNameable (world_in l.context).encoder.resolve a.1.info) (map adapter_entry l.name-iterator);
  planned : FlatWalked (world_in l.context).adapters (λ (xs : List Wanted). IsPlanned (world_in l.context) xs l.fn.planner) (λ (xs : List Wanted). IsPlanned (world_in l.context) xs l.planner)
      (λ (a : NamedWorldAdapter). wanted_by (world_in l.context).encoder.resolve (adapter_owner a.0) a.1.info) (map adapter_entry l.name-iterator);
}
