use Rattle.std.proofs.Common.{◌≡◌, map, take}
use Rattle.wc_resolve.specs.Views.{key_view}
use Rattle.wc_selection.proofs.key_index.key_set.Given as goal
use Rattle.wc_selection.specs.KeyIndex.{viewed_key}

abbrev pub invariant-loop-key : goal.invariant-loop-key
invariant-loop-key l = map key_view l.set.keys ≡ map viewed_key (take l.key-index l.keys)
