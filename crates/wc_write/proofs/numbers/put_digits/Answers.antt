use Rattle.std.proofs.Common.{arith}
use Rattle.wc_write.proofs.DigitLemmas.{number_start, number_step, number_end}
use Rattle.wc_write.proofs.numbers.put_digits.Goals as goal

pub loop-rest-init : goal.loop-rest-init
loop-rest-init c = number_start _ _ (omega arith)

pub loop-rest-preserved : goal.loop-rest-preserved
loop-rest-preserved c = rw c.in_ok-push.ensures.items (number_step _ _ _ _ c.loop-rest.invariant (omega arith))

pub returns-clause-written : goal.returns-clause-written
returns-clause-written c = rw c.in_ok-push-2.ensures.items (number_end _ _ _ _ c.loop-rest.invariant (omega arith))
