use Rattle.std.proofs.Common.{◌++◌, List, ℕ, ap}
use Rattle.std.specs.List.{filter_map}
use Rattle.std.proofs.lemmas.List.Elements.{All-rest}
use Rattle.wc_names.specs.Views.{ImportView, import_view}
use Rattle.wc_validate.specs.Imports.Map.{imports_in}
use Rattle.wc_validate.specs.Imports.Iter.{imports_left}
use Rattle.wc_world.specs.Slots.{imports_of}
use Rattle.wc_plan.specs.Calls.{Wanted}
use Rattle.wc_world.specs.Nameable.{IsNameable}
use Rattle.wc_plan.specs.Fault.{IsPlanRefusal}
use Rattle.wc_plan.specs.Planner.{IsPlanned, world_in}
use Rattle.wc_plan.proofs.ProgressLemmas.{walk_here, wanted_of}
use Rattle.wc_world.proofs.FaultLemmas.{passed_on}
use Rattle.wc_plan.proofs.planner.add_module.Goals as goal

pub loop-module-preserved : goal.loop-module-preserved
loop-module-preserved c = record {
  counted = c.in_ok-add_import.ensures.counted;
  nameable = All-rest (IsNameable (world_in c.args.context).encoder.resolve) (import_view c.in-Some.import.now)
      (imports_of (imports_left c.next.new.self)) (imports_of (imports_left c.loop-module._module-iterator))
      (ap imports_of c.in-Some.ensures.steps) c.loop-module.invariant.nameable;
  planned = λ rest p. c.in_ok-add_import.ensures.made
      (filter_map (λ (x : List ℕ × (List ℕ × ImportView)). wanted_of
      (world_in c.args.context).encoder.resolve c.args.owner c.args.info.now.exports x.1.1) (imports_left c.next.new.self) ++ rest)
      (walk_here (imports_in c.args.info.now.imports) (λ (xs : List Wanted). IsPlanned (world_in c.args.context) xs c.args.planner.now)
      (λ (xs : List Wanted). IsPlanned (world_in c.args.context) xs c.loop-module.planner)
      (λ (x : List ℕ × (List ℕ × ImportView)). wanted_of (world_in c.args.context).encoder.resolve c.args.owner c.args.info.now.exports x.1.1)
      (imports_left c.loop-module._module-iterator) (imports_left c.next.new.self)
      (c.in-Some._module.now, (c.in-Some._name.now, import_view c.in-Some.import.now)) c.in-Some.ensures.steps c.loop-module.invariant.planned rest p);
}

pub returns-in_err-add_import-clause-fault : goal.returns-in_err-add_import-clause-fault
returns-in_err-add_import-clause-fault c = λ rest p.
    passed_on (IsPlanRefusal (world_in c.args.context)) c.from_residual.result _ c.from_residual.ensures.1
    (c.in_err-add_import.ensures.fault (filter_map
    (λ (x : List ℕ × (List ℕ × ImportView)). wanted_of (world_in c.args.context).encoder.resolve c.args.owner c.args.info.now.exports x.1.1)
    (imports_left c.next.new.self) ++ rest)
    (walk_here (imports_in c.args.info.now.imports) (λ (xs : List Wanted). IsPlanned (world_in c.args.context) xs c.args.planner.now)
    (λ (xs : List Wanted). IsPlanned (world_in c.args.context) xs c.loop-module.planner)
    (λ (x : List ℕ × (List ℕ × ImportView)). wanted_of (world_in c.args.context).encoder.resolve c.args.owner c.args.info.now.exports x.1.1)
    (imports_left c.loop-module._module-iterator) (imports_left c.next.new.self)
    (c.in-Some._module.now, (c.in-Some._name.now, import_view c.in-Some.import.now)) c.in-Some.ensures.steps c.loop-module.invariant.planned rest p))
