use Rattle.std.proofs.Common.{◌≤◌, ◌^◌, arith}
use Rattle.std.proofs.Math.Pow.{pow_mono}
use Rattle.wc_read.proofs.reader.Reader.long_number.Goals as goal

pub returns-clause-read : goal.returns-clause-read
returns-clause-read c = c.in-Some.ensures.read c.args.bits c.if-bits-ge-BITS.true

pub returns-clause-bound : goal.returns-clause-bound
returns-clause-bound c =
    let limit : 2 ^ 32 ≤ 2 ^ c.args.bits = pow_mono {i = 32} {j = c.args.bits} c.if-bits-ge-BITS.true in
    let low = c.in-Some.ensures.bound in
    omega arith
