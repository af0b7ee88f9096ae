use Rattle.std.proofs.Common.{◌≡◌, All, IsTrue, map, take}
use Rattle.std.specs.List.{flat_map}
use Rattle.wc_selection.specs.Keys.{named_key}
use Rattle.wcplan_inputs.specs.SharedKeys.{asked_key, is_shared, shared_pairs}
use Rattle.wcplan_inputs.specs.Private.SharedKeys.{exported_scope, names_view, own_pair}
use Rattle.wcplan_inputs.proofs.shared_keys.shared_exports.Given as goal

abbrev pub invariant-loop-key : goal.invariant-loop-key
invariant-loop-key l =
    (map own_pair l.pairs.items
    ≡ flat_map (λ k. shared_pairs (names_view l.names) (asked_key (exported_scope l.world) k)) (map named_key (take l.key-index l.world.keys.now)))
    × All (λ k. IsTrue (is_shared (names_view l.names) (asked_key (exported_scope l.world) k))) (map named_key (take l.key-index l.world.keys.now))
