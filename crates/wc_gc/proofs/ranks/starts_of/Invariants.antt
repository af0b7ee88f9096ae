use Rattle.wc_gc.proofs.StartLemmas.{AreStartsTo}
use Rattle.wc_gc.proofs.ranks.starts_of.Given as goal

abbrev pub invariant-loop-index : goal.invariant-loop-index
invariant-loop-index l = AreStartsTo l.block l.ranges l.index l.starts.items
