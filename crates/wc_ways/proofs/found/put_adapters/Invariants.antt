use Rattle.std.proofs.Common.{◌≡◌, ◌++◌, List, map, ℕ}
use Rattle.std.specs.List.{flat_map, range_with_len}
use Rattle.wc_world.specs.Views.{ComponentWorldView}
use Rattle.wc_ways.specs.Found.{adapter_found_at}
use Rattle.wc_ways.specs.Private.AskedKeys.{IsAskedOf}
use Rattle.wc_ways.specs.Private.Modules.{AreAdapterModules, code_in}
use Rattle.wc_ways.specs.Private.Wanted.{wanted_view}
use Rattle.wc_ways.proofs.found.put_adapters.Given as goal

abbrev pub invariant-loop-index : goal.invariant-loop-index
invariant-loop-index l =
    (w : ComponentWorldView) (key : List ℕ) → IsAskedOf w key l.keys → AreAdapterModules w w.adapters l.adapters
    → map wanted_view l.wanted.items ≡ map wanted_view l.fn.wanted.items ++ flat_map (adapter_found_at w key (map code_in l.adapters)) (range_with_len 0 l.index)
