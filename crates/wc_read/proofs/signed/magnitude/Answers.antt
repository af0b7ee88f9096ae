use Rattle.std.proofs.Common.{◌≡◌, ◌<◌, ◌≤◌, ◌^◌, ◌+◌, ◌-◌, ◌*◌, ◌%◌, arith, refl}
use Rattle.std.proofs.Math.Pow.{pow_mono}
use Rattle.std.proofs.lemmas.Bool.{lt-ltb}
use Rattle.wc_read.proofs.NumbersLemmas.{shl_without_overflow, sum_below, fits_if_shifted_out}
use Rattle.wc_read.proofs.SignedLoopLemmas.{sign_fits}
use Rattle.wc_read.proofs.signed.magnitude.Goals as goal
use Rattle.wc_read.proofs.signed.magnitude.Goals.{After-from, else-left-lt-GROUP_BITS-via-then-left-lt-GROUP_BITS+else-digits-left-ne0, else-left-lt-GROUP_BITS-via-else-left-lt-GROUP_BITS}

-- the digits leave a bit for the sign
fits : (c : After-from) → c.args.digits < 2 ^ (c.args.left - 1)
fits c = elim c.else-left-lt-GROUP_BITS.branch [
  | else-left-lt-GROUP_BITS-via-then-left-lt-GROUP_BITS+else-digits-left-ne0 w ↦ fits_if_shifted_out _ _ w.if-digits-left-ne0.false
  | else-left-lt-GROUP_BITS-via-else-left-lt-GROUP_BITS w ↦ sign_fits _ _ c.requires.last w.if-left-lt-GROUP_BITS.false
]

digits : (c : After-from) → c.from.result * 2 ^ c.args.shift % 18446744073709551616 ≡ c.args.digits * 2 ^ c.args.shift
digits c = rw c.from.ensures (shl_without_overflow _ c.args.shift (c.args.left - 1) (fits c) (omega arith))

below : (c : After-from) → c.args.low + c.args.digits * 2 ^ c.args.shift < 2 ^ (c.args.shift + c.args.left - 1)
below c =
    let e : c.args.left - 1 + c.args.shift ≡ c.args.shift + c.args.left - 1 = omega arith in
    rw e at (sum_below c.args.low c.args.digits c.args.shift (c.args.left - 1) c.requires.low (fits c))

pub overflow_add-result : goal.overflow_add-result
overflow_add-result c =
    let limit : 2 ^ (c.args.shift + c.args.left - 1) ≤ 2 ^ 64 = pow_mono {j = 64} (omega arith) in
    rw (digits c) (omega (arith, below c))

pub returns-clause-value : goal.returns-clause-value
returns-clause-value c =
    let turned : c.args.digits * 2 ^ c.args.shift ≡ 2 ^ c.args.shift * c.args.digits = omega arith in
    rw (digits c, lt-ltb _ _ (fits c), turned) refl

pub returns-clause-bound : goal.returns-clause-bound
returns-clause-bound c = rw (digits c) (below c)
