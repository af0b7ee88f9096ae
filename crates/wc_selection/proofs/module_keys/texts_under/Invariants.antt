use Rattle.std.proofs.Common.{◌≡◌, map, take}
use Rattle.wc_selection.proofs.module_keys.texts_under.Given as goal
use Rattle.wc_selection.specs.RequiredTexts.{texts_under}
use Rattle.wc_maps.specs.Texts.{text_of, text_pair}

abbrev pub invariant-loop-pair : goal.invariant-loop-pair
invariant-loop-pair l = map text_of l.texts.items ≡ texts_under l.first (map text_pair (take l.pair-index l.pairs))
