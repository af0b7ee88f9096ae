use Rattle.std.proofs.Common.{map, take}
use Rattle.wc_selection.proofs.key_index.positions_by_text.Given as goal
use Rattle.wc_selection.specs.KeyIndex.{ArePositions}
use Rattle.wc_selection.specs.Keys.{named_key}

abbrev pub invariant-loop-position : goal.invariant-loop-position
invariant-loop-position l = ArePositions (map named_key (take l.position l.keys)) l.positions.entries
