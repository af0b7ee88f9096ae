use Rattle.std.proofs.Common.{arith}
use Rattle.wc_write.proofs.SignedDigitLemmas.{signed_start, signed_step, signed_end}
use Rattle.wc_write.proofs.numbers.put_signed_digits.Goals as goal

pub loop-rest-init : goal.loop-rest-init
loop-rest-init c = signed_start _ _ _ (omega arith)

pub loop-rest-preserved : goal.loop-rest-preserved
loop-rest-preserved c = rw (c.in_ok-push.ensures.items, c.signed_digit.ensures) (signed_step _ _ _ _ _ c.loop-rest.invariant (omega arith))

pub returns : goal.returns
returns c = rw (c.in_ok-push-2.ensures.items, c.signed_digit-2.ensures) (signed_end _ _ _ _ _ c.loop-rest.invariant (omega arith))
