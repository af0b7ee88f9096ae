use Rattle.std.proofs.Common.{take}
use Rattle.wc_paths.specs.Counts.{counts_value}
use Rattle.wc_paths.proofs.PathLemmas.{HasNumbers}
use Rattle.wc_paths.proofs.counts.put_numbers.Given as goal

abbrev pub invariant-loop-item : goal.invariant-loop-item
invariant-loop-item l = HasNumbers (counts_value l.counts) (take l.item-index l.items) l.initial.out.items l.out.items l.there
