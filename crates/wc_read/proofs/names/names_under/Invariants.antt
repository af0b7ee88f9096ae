use Rattle.wc_read.proofs.NamesReadLemmas.{AreEntries}
use Rattle.wc_read.proofs.names.names_under.Given as goal

abbrev pub invariant-loop-pair : goal.invariant-loop-pair
invariant-loop-pair l = AreEntries l.pair-items l.pair-index l.names.entries
