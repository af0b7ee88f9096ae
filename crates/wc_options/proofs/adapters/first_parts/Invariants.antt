use Rattle.std.proofs.Common.{◌≡◌, map, take}
use Rattle.wc_maps.specs.Texts.{first_parts, text_of, text_pair}
use Rattle.wc_options.proofs.adapters.first_parts.Given as goal

abbrev pub invariant-loop-name : goal.invariant-loop-name
invariant-loop-name l = map text_of l.names.items ≡ first_parts (map text_pair (take l.name-index l.pairs))
