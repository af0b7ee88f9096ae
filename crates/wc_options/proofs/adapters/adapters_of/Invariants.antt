use Rattle.std.proofs.Common.{◌≡◌, map, take}
use Rattle.wc_maps.specs.Texts.{text_of, text_pair}
use Rattle.wc_options.specs.Adapters.{adapter_file_of}
use Rattle.wc_options.proofs.adapters.adapters_of.Given as goal

abbrev pub invariant-loop-value : goal.invariant-loop-value
invariant-loop-value l = map text_pair l.found.items ≡ map adapter_file_of (map text_of (take l.value-index l.values))
