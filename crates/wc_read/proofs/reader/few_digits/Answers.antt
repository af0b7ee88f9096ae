use Rattle.std.proofs.Common.{arith}
use Rattle.wc_read.proofs.NumbersLemmas.{two_read, three_read, four_read, five_read}
use Rattle.wc_read.proofs.reader.few_digits.Goals as goal

pub returns-then-second-lt-MORE_BYTES-clause-read : goal.returns-then-second-lt-MORE_BYTES-clause-read
returns-then-second-lt-MORE_BYTES-clause-read c = λ bits width.
    rw (c.from-one.ensures, c.from.ensures) (two_read bits c.args.input.now c.in_ok-first.first.now c.in_ok-second.second.now c.in_ok-first.after_first.now c.in_ok-second.after_second.now width c.in_ok-first.ensures.cases.0 c.in_ok-second.ensures.cases.0 c.if-first-lt-MORE_BYTES.false c.if-second-lt-MORE_BYTES.true)

pub returns-then-third-lt-MORE_BYTES-clause-read : goal.returns-then-third-lt-MORE_BYTES-clause-read
returns-then-third-lt-MORE_BYTES-clause-read c = λ bits width.
    rw (c.from-one.ensures, c.from-2.ensures, c.from-then-third-lt-MORE_BYTES.ensures) (three_read bits c.args.input.now c.in_ok-first.first.now c.in_ok-second.second.now c.in_ok-third.third.now c.in_ok-first.after_first.now c.in_ok-second.after_second.now c.in_ok-third.after_third.now width c.in_ok-first.ensures.cases.0 c.in_ok-second.ensures.cases.0 c.in_ok-third.ensures.cases.0 c.if-first-lt-MORE_BYTES.false c.if-second-lt-MORE_BYTES.false (omega arith) c.if-third-lt-MORE_BYTES.true)

pub returns-then-fourth-lt-MORE_BYTES-clause-read : goal.returns-then-fourth-lt-MORE_BYTES-clause-read
returns-then-fourth-lt-MORE_BYTES-clause-read c = λ bits width.
    rw (c.from-one.ensures, c.from-2.ensures, c.from-3.ensures, c.from-then-fourth-lt-MORE_BYTES.ensures) (four_read bits c.args.input.now c.in_ok-first.first.now c.in_ok-second.second.now c.in_ok-third.third.now c.in_ok-fourth.fourth.now c.in_ok-first.after_first.now c.in_ok-second.after_second.now c.in_ok-third.after_third.now c.in_ok-fourth.after_fourth.now width c.in_ok-first.ensures.cases.0 c.in_ok-second.ensures.cases.0 c.in_ok-third.ensures.cases.0 c.in_ok-fourth.ensures.cases.0 c.if-first-lt-MORE_BYTES.false c.if-second-lt-MORE_BYTES.false (omega arith) c.if-third-lt-MORE_BYTES.false (omega arith) c.if-fourth-lt-MORE_BYTES.true)

pub returns-clause-read : goal.returns-clause-read
returns-clause-read c = λ bits width.
    rw (c.from-one.ensures, c.from-2.ensures, c.from-3.ensures, c.from-4.ensures, c.from-5.ensures) (five_read bits c.args.input.now c.in_ok-first.first.now c.in_ok-second.second.now c.in_ok-third.third.now c.in_ok-fourth.fourth.now c.in_ok-fifth.fifth.now c.in_ok-first.after_first.now c.in_ok-second.after_second.now c.in_ok-third.after_third.now c.in_ok-fourth.after_fourth.now c.in_ok-fifth.after_fifth.now width c.in_ok-first.ensures.cases.0 c.in_ok-second.ensures.cases.0 c.in_ok-third.ensures.cases.0 c.in_ok-fourth.ensures.cases.0 c.in_ok-fifth.ensures.cases.0 c.if-first-lt-MORE_BYTES.false c.if-second-lt-MORE_BYTES.false (omega arith) c.if-third-lt-MORE_BYTES.false (omega arith) c.if-fourth-lt-MORE_BYTES.false (omega arith) c.if-fifth-ge-FOUR_BITS.false)
