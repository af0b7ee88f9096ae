use Rattle.std.proofs.Common.{All, Contains, map, take}
use Rattle.wc_maps.proofs.texts.first_outside.Given as goal
use Rattle.wc_maps.specs.Texts.{text_of}

abbrev pub invariant-loop-text : goal.invariant-loop-text
invariant-loop-text l = All (Contains (map text_of l.set.keys)) (map text_of (take l.text-index l.texts))
