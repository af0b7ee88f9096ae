use Rattle.std.proofs.Common.{◌≡◌, map, take}
use Rattle.wc_selection.proofs.module_keys.second_texts.Given as goal
use Rattle.wc_maps.specs.Texts.{second_parts, text_of, text_pair}

abbrev pub invariant-loop-pair : goal.invariant-loop-pair
invariant-loop-pair l = map text_of l.texts.items ≡ second_parts (map text_pair (take l.pair-index l.pairs))
