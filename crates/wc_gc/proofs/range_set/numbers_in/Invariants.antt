use Rattle.wc_gc.proofs.NumbersBelowLemmas.{ArePassed}
use Rattle.wc_gc.proofs.range_set.numbers_in.Given as goal

abbrev pub invariant-loop-range : goal.invariant-loop-range
invariant-loop-range l = ArePassed l.ranges l.range-index l.bound l.numbers.items
