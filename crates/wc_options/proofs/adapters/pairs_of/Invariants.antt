use Rattle.std.proofs.Common.{◌≡◌, map, take}
use Rattle.wc_maps.specs.Texts.{text_of, text_pair}
use Rattle.wc_options.specs.Adapters.{pair_or}
use Rattle.wc_options.proofs.adapters.pairs_of.Given as goal

abbrev pub invariant-loop-value : goal.invariant-loop-value
invariant-loop-value l = map text_pair l.found.items ≡ map pair_or (map text_of (take l.value-index l.values))
