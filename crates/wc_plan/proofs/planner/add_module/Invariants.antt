use Rattle.std.proofs.Common.{All, List, ℕ}
use Rattle.wc_names.specs.Views.{ImportView}
use Rattle.wc_validate.specs.Imports.Map.{imports_in}
use Rattle.wc_validate.specs.Imports.Iter.{imports_left}
use Rattle.wc_world.specs.Slots.{imports_of}
use Rattle.wc_plan.specs.Calls.{Wanted}
use Rattle.wc_world.specs.Nameable.{IsNameable}
use Rattle.wc_plan.specs.Planner.{IsCounted, IsPlanned, world_in}
use Rattle.wc_plan.proofs.ProgressLemmas.{Walked, wanted_of}
use Rattle.wc_plan.proofs.planner.add_module.Given as goal

abbrev pub invariant-loop-module : goal.invariant-loop-module
invariant-loop-module l = record {
  counted : IsCounted l.planner;
  nameable : All (IsNameable (world_in l.context).encoder.resolve) (imports_of (imports_left l._module-iterator));
  planned : Walked (imports_in l.info.imports) (λ (xs : List Wanted). IsPlanned (world_in l.context) xs l.fn.planner) (λ (xs : List Wanted). IsPlanned (world_in l.context) xs l.planner)
      (λ (x : List ℕ × (List ℕ × ImportView)). wanted_of (world_in l.context).encoder.resolve l.owner l.info.exports x.1.1) (imports_left l._module-iterator);
}
