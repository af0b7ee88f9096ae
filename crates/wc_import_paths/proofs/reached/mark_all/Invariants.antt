use Rattle.std.proofs.Common.{◌≡◌, length, take}
use Rattle.wc_paths.specs.Counts.{counts_value}
use Rattle.wc_import_paths.specs.Private.Reached.{Marks}
use Rattle.wc_import_paths.proofs.reached.mark_all.Given as goal

abbrev pub invariant-loop-number : goal.invariant-loop-number
invariant-loop-number l = record {
  sized : length l.reached.items ≡ length l.fn.reached.items;
  marks : Marks (counts_value l.counts) (take l.number-index l.numbers) l.fn.reached.items l.reached.items;
}
