use Rattle.wc_read.proofs.NumbersLemmas.{number_last, seven_bits}
use Rattle.wc_read.proofs.reader.Reader.number.Goals as goal

pub returns-clause-read : goal.returns-clause-read
returns-clause-read c =
    let small = c.if-first-lt-MORE_BYTES.true in
    let fits = seven_bits c.args.bits _ small c.if-bits-ge-GROUP_BITS.true in
    rw (c.in-Some.ensures.cases.0, c.from.ensures) (number_last c.args.bits _ _ small fits)

pub returns-clause-bound : goal.returns-clause-bound
returns-clause-bound c = rw c.from.ensures (seven_bits c.args.bits _ c.if-first-lt-MORE_BYTES.true c.if-bits-ge-GROUP_BITS.true)
