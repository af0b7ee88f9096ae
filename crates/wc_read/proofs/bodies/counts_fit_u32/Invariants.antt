use Rattle.wc_read.proofs.LocalCountLemmas.{IsCounted}
use Rattle.wc_read.proofs.bodies.counts_fit_u32.Given as goal

abbrev pub invariant-loop-run : goal.invariant-loop-run
invariant-loop-run l = IsCounted l.locals l.run-index l.total
