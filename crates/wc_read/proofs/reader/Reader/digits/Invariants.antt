use Rattle.std.proofs.Common.{length}
use Rattle.wc_read.proofs.NumbersLemmas.{IsSoFar}
use Rattle.wc_read.proofs.reader.Reader.digits.Given as goal

abbrev pub invariant-loop-byte : goal.invariant-loop-byte
invariant-loop-byte l = IsSoFar l.bits l.fn.self.rest.now l.value l.shift l.self.rest.now

abbrev pub decreases-loop-byte : goal.decreases-loop-byte
decreases-loop-byte l = length l.self.rest.now
