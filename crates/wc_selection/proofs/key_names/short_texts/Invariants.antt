use Rattle.std.proofs.Common.{map, take}
use Rattle.wc_selection.proofs.key_names.short_texts.Given as goal
use Rattle.wc_selection.specs.Keys.{named_key}
use Rattle.wc_selection.specs.KeyTexts.{HasSingles}

abbrev pub invariant-loop-key : goal.invariant-loop-key
invariant-loop-key l = HasSingles (map named_key (take l.key-index l.keys)) l.short.entries
