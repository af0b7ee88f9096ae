use Rattle.std.proofs.Common.{◌≡◌, map, take}
use Rattle.wc_selection.proofs.key_index.keys_at.Given as goal
use Rattle.wc_selection.specs.KeyIndex.{key_at, viewed_key}
use Rattle.wc_selection.specs.Keys.{named_key}

abbrev pub invariant-loop-position : goal.invariant-loop-position
invariant-loop-position l = map viewed_key l.found.items ≡ map (key_at (map named_key l.keys)) (take l.position-index l.positions)
