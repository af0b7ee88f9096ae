use Rattle.std.proofs.Common.{map, drop}
use Rattle.wc_maps.proofs.SeenLemmas.{IsSeen}
use Rattle.wc_maps.proofs.texts.first_repeated.Given as goal
use Rattle.wc_maps.specs.Texts.{text_of}

abbrev pub invariant-loop-text : goal.invariant-loop-text
invariant-loop-text l = IsSeen text_of (map text_of l.texts) (map text_of (drop l.text-index l.texts)) l.seen.keys
