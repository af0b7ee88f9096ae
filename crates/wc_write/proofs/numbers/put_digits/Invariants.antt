use Rattle.wc_write.proofs.DigitLemmas.{IsSoFar}
use Rattle.wc_write.proofs.numbers.put_digits.Given as goal

abbrev pub invariant-loop-rest : goal.invariant-loop-rest
invariant-loop-rest l = IsSoFar l.fn.out.items l.number l.out.items l.rest

abbrev pub decreases-loop-rest : goal.decreases-loop-rest
decreases-loop-rest l = l.rest
