use Rattle.std.proofs.Common.{◌≡◌, map, take}
use Rattle.wc_maps.specs.Texts.{text_pair}
use Rattle.wcplan_inputs.specs.Private.SharedKeys.{own_pair}
use Rattle.wcplan_inputs.proofs.module_keys.text_pairs.Given as goal

abbrev pub invariant-loop-first : goal.invariant-loop-first
invariant-loop-first l = map text_pair l.texts.items ≡ map own_pair (take l.first-index l.pairs)
