use Rattle.std.proofs.Common.{◌∙◌, List, ℕ, [], ap, sym, subst}
use Rattle.std.proofs.lemmas.List.Folds.{flat_map-map}
use Rattle.wc_resolve.specs.Live.{AddsListings}
use Rattle.wc_resolve.specs.Views.{world_view}
use Rattle.wc_names.specs.Laws.{IsImportIn}
use Rattle.wc_names.specs.Views.{ImportView, import_view}
use Rattle.wc_validate.specs.Imports.Map.{imports_in}
use Rattle.wc_validate.specs.Imports.Iter.{imports_left}
use Rattle.wc_world.specs.Live.{import_roots}
use Rattle.wc_world.proofs.LiveWalkLemmas.{adds_none, live_end, live_has, live_next, live_start}
use Rattle.wc_world.proofs.live.add_imports.Goals as goal

pub loop-module-init : goal.loop-module-init
loop-module-init c = record {
  have = c.requires.have;
  walk = live_start c.args.resolve.now (λ (x : List ℕ × (List ℕ × ImportView)). import_roots c.args.resolve.now (world_view c.args.world.now).imports x.1.1) (imports_in c.args.imports.now) (imports_left c.into_iter-module-iterator.result)
      [] c.args.live.now c.args.live.now (ap imports_left c.into_iter-module-iterator.ensures.into_iter_gives ∙ c.imports-module-items.ensures) (adds_none c.args.resolve.now c.args.live.now);
}

pub add_import-requires-clause-complete : goal.add_import-requires-clause-complete
add_import-requires-clause-complete c = (c.loop-module.invariant.walk.added c.requires.complete).0

pub add_import-requires-clause-have : goal.add_import-requires-clause-have
add_import-requires-clause-have c = c.loop-module.invariant.have

pub add_import-requires-clause-there : goal.add_import-requires-clause-there
add_import-requires-clause-there c =
    live_has c.args.resolve.now (λ (x : List ℕ × (List ℕ × ImportView)). import_roots c.args.resolve.now (world_view c.args.world.now).imports x.1.1) (imports_in c.args.imports.now) (imports_left c.loop-module._module-iterator)
    [] c.args.live.now (λ (x : List ℕ × (List ℕ × ImportView)). IsImportIn c.args.resolve.now (world_view c.args.world.now) x.1.1)
    (imports_left c.next.new.self) (c.in-Some._module.now, (c.in-Some._name.now, import_view c.in-Some.import.now)) c.loop-module.live c.in-Some.ensures.steps c.requires.imports c.loop-module.invariant.walk

pub loop-module-preserved : goal.loop-module-preserved
loop-module-preserved c = record {
  have = c.in_ok-add_import.ensures.have;
  walk = live_next c.args.resolve.now (λ (x : List ℕ × (List ℕ × ImportView)). import_roots c.args.resolve.now (world_view c.args.world.now).imports x.1.1) (imports_in c.args.imports.now) (imports_left c.loop-module._module-iterator)
      [] c.args.live.now
      (imports_left c.next.new.self) (c.in-Some._module.now, (c.in-Some._name.now, import_view c.in-Some.import.now)) c.loop-module.live c.add_import.new.live c.in-Some.ensures.steps c.in_ok-add_import.ensures.adds c.loop-module.invariant.walk;
}

pub returns-clause-have : goal.returns-clause-have
returns-clause-have c = c.loop-module.invariant.have

pub returns-clause-adds : goal.returns-clause-adds
returns-clause-adds c =
    subst (AddsListings c.args.resolve.now c.args.live.now c.loop-module.live)
    (sym (flat_map-map (import_roots c.args.resolve.now (world_view c.args.world.now).imports) (λ (x : List ℕ × (List ℕ × ImportView)). x.1.1) (imports_in c.args.imports.now)))
    (live_end c.args.resolve.now (λ (x : List ℕ × (List ℕ × ImportView)). import_roots c.args.resolve.now (world_view c.args.world.now).imports x.1.1) (imports_in c.args.imports.now) (imports_left c.loop-module._module-iterator)
    [] c.args.live.now c.loop-module.live c.in-None.ensures.steps.0 c.loop-module.invariant.walk)
