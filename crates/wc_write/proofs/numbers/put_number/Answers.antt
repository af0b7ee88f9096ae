use Rattle.std.proofs.Common.{sym, ◌∙◌, ap, ◌++◌, arith}
use Rattle.wc_write.proofs.DigitLemmas.{digits_last}
use Rattle.wc_write.proofs.numbers.put_number.Goals as goal

pub returns-then-number-lt-SEVEN_BITS-clause-written : goal.returns-then-number-lt-SEVEN_BITS-clause-written
returns-then-number-lt-SEVEN_BITS-clause-written c = c.in_ok-push.ensures.items ∙ ap (λ z. c.args.out.now.items ++ z) (sym (digits_last 9 c.args.number (omega arith)))
