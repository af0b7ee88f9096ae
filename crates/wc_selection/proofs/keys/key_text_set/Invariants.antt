use Rattle.std.proofs.Common.{map, take}
use Rattle.wc_selection.proofs.keys.key_text_set.Given as goal
use Rattle.wc_selection.specs.Keys.{named_key, texts_of}
use Rattle.wc_maps.specs.Texts.{HasTexts, text_of}

abbrev pub invariant-loop-key : goal.invariant-loop-key
invariant-loop-key l = HasTexts (texts_of (map named_key (take l.key-index l.keys))) (map text_of l.set.keys)
