use Rattle.std.proofs.Common.{◌∙◌, ap, map, refl}
use Rattle.wc_resolve.specs.Views.{world_view}
use Rattle.wc_world.specs.Live.{AreImportsIn, imported_types, module_roots}
use Rattle.wc_world.specs.Private.LiveAdditions.{imports_roots}
use Rattle.wc_world.specs.Views.{NamedWorldAdapter}
use Rattle.wc_world.specs.WorldViews.{adapter_entry}
use Rattle.wc_world.proofs.LiveWalkLemmas.{adapters_end, adapters_has, adapters_next, adapters_start}
use Rattle.wc_world.proofs.live.add_adapters.Goals as goal

pub loop-name-init : goal.loop-name-init
loop-name-init c = record {
  have = c.requires.have;
  complete = c.requires.complete;
  after = adapters_start c.args.resolve.now (λ (a : NamedWorldAdapter). module_roots c.args.resolve.now (world_view c.args.world.now).imports a.1.info.imports) (map adapter_entry c.args.adapters.now.entries) (imported_types (world_view c.args.world.now).imports) c.args.live.now (map adapter_entry c.into_iter-name-iterator.result)
      (ap (map adapter_entry) (c.into_iter-name-iterator.ensures.into_iter_gives ∙ c.iter-name-items.ensures.rest));
}

pub add_imports-requires-clause-complete : goal.add_imports-requires-clause-complete
add_imports-requires-clause-complete c = c.loop-name.invariant.complete

pub add_imports-requires-clause-have : goal.add_imports-requires-clause-have
add_imports-requires-clause-have c = c.loop-name.invariant.have

pub add_imports-requires-clause-imports : goal.add_imports-requires-clause-imports
add_imports-requires-clause-imports c =
    adapters_has c.args.resolve.now (λ (a : NamedWorldAdapter). module_roots c.args.resolve.now (world_view c.args.world.now).imports a.1.info.imports) (map adapter_entry c.args.adapters.now.entries) (imported_types (world_view c.args.world.now).imports) c.args.live.now (map adapter_entry c.loop-name._name-iterator) (map adapter_entry c.next.new.self)
    (adapter_entry (c.in-Some._name.now, c.in-Some.adapter.now)) c.loop-name.live (λ (a : NamedWorldAdapter). AreImportsIn c.args.resolve.now (world_view c.args.world.now) a.1.info.imports)
    (ap (map adapter_entry) c.in-Some.ensures.steps) c.requires.imports c.loop-name.invariant.after

pub loop-name-preserved : goal.loop-name-preserved
loop-name-preserved c = record {
  have = c.in_ok-add_imports.ensures.have;
  complete = (c.in_ok-add_imports.ensures.adds c.loop-name.invariant.complete).0;
  after = adapters_next c.args.resolve.now (λ (a : NamedWorldAdapter). module_roots c.args.resolve.now (world_view c.args.world.now).imports a.1.info.imports) (map adapter_entry c.args.adapters.now.entries) (imported_types (world_view c.args.world.now).imports) c.args.live.now (map adapter_entry c.loop-name._name-iterator) (map adapter_entry c.next.new.self)
      (adapter_entry (c.in-Some._name.now, c.in-Some.adapter.now)) (imports_roots c.args.resolve.now (world_view c.args.world.now).imports c.in-Some.adapter.now.info.imports) c.loop-name.live c.add_imports.new.live
      (ap (map adapter_entry) c.in-Some.ensures.steps) refl c.in_ok-add_imports.ensures.adds c.loop-name.invariant.after;
}

pub returns : goal.returns
returns c =
    adapters_end c.args.resolve.now (λ (a : NamedWorldAdapter). module_roots c.args.resolve.now (world_view c.args.world.now).imports a.1.info.imports) (map adapter_entry c.args.adapters.now.entries) (imported_types (world_view c.args.world.now).imports) c.args.live.now (map adapter_entry c.loop-name._name-iterator) c.loop-name.live
    (ap (map adapter_entry) c.in-None.ensures.steps.0) c.loop-name.invariant.after
