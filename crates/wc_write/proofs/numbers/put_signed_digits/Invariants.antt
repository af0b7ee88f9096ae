use Rattle.wc_write.proofs.SignedDigitLemmas.{IsSignedSoFar}
use Rattle.wc_write.proofs.numbers.put_signed_digits.Given as goal

abbrev pub invariant-loop-rest : goal.invariant-loop-rest
invariant-loop-rest l = IsSignedSoFar l.fn.out.items l.negative l.magnitude l.out.items l.rest

abbrev pub decreases-loop-rest : goal.decreases-loop-rest
decreases-loop-rest l = l.rest
