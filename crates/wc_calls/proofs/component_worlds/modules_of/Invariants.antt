use Rattle.std.proofs.Common.{◌≡◌, ◌++◌, map}
use Rattle.std.specs.List.{flat_map}
use Rattle.wc_world.specs.Views.{NamedWorldAdapter}
use Rattle.wc_world.specs.WorldViews.{adapter_entry, world_view}
use Rattle.wc_calls.specs.ComponentWorlds.{modules_text}
use Rattle.wc_calls.proofs.component_worlds.modules_of.Given as goal

abbrev pub invariant-loop-name : goal.invariant-loop-name
invariant-loop-name l =
    modules_text (world_view l.world) ≡ l.modules.items ++ flat_map (λ (a : NamedWorldAdapter). a.1.wasm) (map adapter_entry l._name-iterator)
