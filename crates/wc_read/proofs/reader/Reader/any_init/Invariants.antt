use Rattle.std.proofs.Common.{length}
use Rattle.wc_read.proofs.InitsLemmas.{IsPassed}
use Rattle.wc_read.proofs.reader.Reader.any_init.Given as goal

abbrev pub invariant-loop-init : goal.invariant-loop-init
invariant-loop-init l = IsPassed l.self.rest.now l.fn.self.rest.now

abbrev pub decreases-loop-init : goal.decreases-loop-init
decreases-loop-init l = length l.self.rest.now
