use Rattle.wc_read.proofs.NamesAtLemmas.{AreIndices}
use Rattle.wc_read.proofs.names.indices_of.Given as goal

abbrev pub invariant-loop-index : goal.invariant-loop-index
invariant-loop-index l = AreIndices l.indices l.index-index l.set.entries
