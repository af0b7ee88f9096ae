use Rattle.std.proofs.Common.{◌≡◌, map, take}
use Rattle.wc_paths.specs.Counts.{counts_value}
use Rattle.wc_summary.specs.CoreModules.{label_value}
use Rattle.wc_summary.specs.Private.CoreModules.{label_number}
use Rattle.wc_summary.proofs.core_modules.label_numbers.Given as goal

abbrev pub invariant-loop-label : goal.invariant-loop-label
invariant-loop-label l = l.numbers.items ≡ map (label_number (counts_value l.counts)) (map label_value (take l.label-index l.labels))
