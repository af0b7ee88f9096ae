use Rattle.std.proofs.Common.{◌≡◌, map, take}
use Rattle.wc_selection.proofs.key_index.listed_positions.Given as goal
use Rattle.wc_selection.specs.KeyIndex.{listed_positions}
use Rattle.wc_maps.specs.Texts.{text_of}

abbrev pub invariant-loop-text : goal.invariant-loop-text
invariant-loop-text l = l.found.items ≡ listed_positions l.positions.entries (map text_of (take l.text-index l.texts))
