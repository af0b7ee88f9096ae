use Rattle.std.proofs.Common.{map, take}
use Rattle.wc_maps.proofs.texts.text_set.Given as goal
use Rattle.wc_maps.specs.Texts.{HasTexts, text_of}

abbrev pub invariant-loop-text : goal.invariant-loop-text
invariant-loop-text l = HasTexts (map text_of (take l.text-index l.texts)) (map text_of l.set.keys)
