use Rattle.wc_read.proofs.LocalCountLemmas.{counted_end}
use Rattle.wc_read.proofs.bodies.counts_fit_u32.Goals as goal

pub returns : goal.returns
returns c = counted_end _ _ _ c.loop-run.invariant c.loop-run-test.false
