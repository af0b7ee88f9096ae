use Rattle.std.proofs.Common.{map}
use Rattle.wc_resolve.specs.Views.{world_view}
use Rattle.wc_world.specs.Live.{imported_types, module_roots}
use Rattle.wc_world.specs.Views.{NamedWorldAdapter}
use Rattle.wc_world.specs.WorldViews.{adapter_entry}
use Rattle.wc_world.proofs.LiveWalkLemmas.{AdaptersWalk}
use Rattle.wc_world.proofs.live.add_adapters.Given as goal

abbrev pub invariant-loop-name : goal.invariant-loop-name
invariant-loop-name l = AdaptersWalk l.resolve (λ (a : NamedWorldAdapter). module_roots l.resolve (world_view l.world).imports a.1.info.imports) (map adapter_entry l.adapters.entries) (imported_types (world_view l.world).imports) l.fn.live
    (map adapter_entry l._name-iterator) l.added.keys l.live
