use Rattle.std.proofs.Common.{◌≡◌, ◌<◌, ◌≤◌, ◌^◌, ℕ, ◌+◌, ◌-◌, ◌*◌, ◌%◌, List, ◌∷◌, Some, arith}
use Rattle.std.proofs.Math.Pow.{pow_mono}
use Rattle.std.proofs.lemmas.Result.{err_from_is_err_and}
use Rattle.wc_read.specs.Reading.Reader.{byte_at}
use Rattle.wc_read.proofs.NumbersLemmas.{IsSoFar, byte_cut, byte_none, number_fails, number_empty, number_end, number_high, number_too_long, number_step, shl_without_overflow, last_digits, last_below, fits_left, fits_if_shifted_out, high_if_not}
use Rattle.wc_read.proofs.reader.Reader.digits.Goals as goal
use Rattle.wc_read.proofs.reader.Reader.digits.Goals.{After-from, After-from-in-loop-byte, else-left-lt-GROUP_BITS-via-then-left-lt-GROUP_BITS+else-byte-left-ne0, else-left-lt-GROUP_BITS-via-else-left-lt-GROUP_BITS}

-- the low bits, and the bytes from the one that was taken
at_byte : (bits : ℕ) (bytes : List ℕ) (value shift : ℕ) (rest : List ℕ) (b : ℕ) (others : List ℕ) → IsSoFar bits bytes value shift rest → byte_at rest ≡ Some (b, others) → IsSoFar bits bytes value shift (b ∷ others)
at_byte bits bytes value shift rest b others s e = let cut = byte_cut rest b others e in rw cut at s

pub returns-in_err-byte-clause-read : goal.returns-in_err-byte-clause-read
returns-in_err-byte-clause-read c =
    let p = err_from_is_err_and c.from_residual.result c.from_residual.ensures.1 in
    let none = byte_none _ c.in_err-byte.ensures.0 in
    rw (p.1, p.2) (number_fails _ _ _ _ _ c.loop-byte.invariant (rw none (number_empty _)), c.in_err-byte.ensures.1, c.in_err-byte.ensures.2)

pub returns-then-byte-left-ne0-clause-read : goal.returns-then-byte-left-ne0-clause-read
returns-then-byte-left-ne0-clause-read c =
    let s = at_byte _ _ _ _ _ _ _ c.loop-byte.invariant c.in_ok-byte.ensures in
    (number_fails _ _ _ _ _ s (number_high _ _ _ c.if-byte-lt-MORE_BYTES.true (high_if_not _ _ c.if-byte-left-ne0.true)), (λ same. cc same), λ same. cc same)

-- the last byte fits the bits that are left
fits : (c : After-from) → c.in_ok-byte.byte < 2 ^ (c.args.bits - c.loop-byte.shift)
fits c = elim c.else-left-lt-GROUP_BITS.branch [
  | else-left-lt-GROUP_BITS-via-then-left-lt-GROUP_BITS+else-byte-left-ne0 w ↦ fits_if_shifted_out _ _ w.if-byte-left-ne0.false
  | else-left-lt-GROUP_BITS-via-else-left-lt-GROUP_BITS w ↦ fits_left _ _ c.if-byte-lt-MORE_BYTES.true w.if-left-lt-GROUP_BITS.false
]

digits : (c : After-from) → c.from.result * 2 ^ c.loop-byte.shift % 18446744073709551616 ≡ 2 ^ c.loop-byte.shift * c.in_ok-byte.byte
digits c = rw c.from.ensures (last_digits c.args.bits _ _ c.loop-byte.invariant.within c.requires.limit (fits c))

below : (c : After-from) → c.loop-byte.value + 2 ^ c.loop-byte.shift * c.in_ok-byte.byte < 2 ^ c.args.bits
below c = last_below _ _ _ _ c.loop-byte.invariant.within c.loop-byte.invariant.low (fits c)

pub overflow_add-result : goal.overflow_add-result
overflow_add-result c =
    let limit : 2 ^ c.args.bits ≤ 2 ^ 64 = pow_mono {j = 64} c.requires.limit in
    rw (digits c) (omega (arith, below c))

pub returns-then-byte-lt-MORE_BYTES-clause-read : goal.returns-then-byte-lt-MORE_BYTES-clause-read
returns-then-byte-lt-MORE_BYTES-clause-read c =
    let s = at_byte _ _ _ _ _ _ _ c.loop-byte.invariant c.in_ok-byte.ensures in
    rw (digits c) (number_end _ _ _ _ _ _ s c.if-byte-lt-MORE_BYTES.true (fits c))

pub returns-then-byte-lt-MORE_BYTES-clause-bound : goal.returns-then-byte-lt-MORE_BYTES-clause-bound
returns-then-byte-lt-MORE_BYTES-clause-bound c = rw (digits c) (below c)

pub returns-then-left-le-GROUP_BITS-clause-read : goal.returns-then-left-le-GROUP_BITS-clause-read
returns-then-left-le-GROUP_BITS-clause-read c =
    let s = at_byte _ _ _ _ _ _ _ c.loop-byte.invariant c.in_ok-byte.ensures in
    (number_fails _ _ _ _ _ s (number_too_long _ _ _ c.if-byte-lt-MORE_BYTES.false c.if-left-le-GROUP_BITS.true), (λ same. cc same), λ same. cc same)

more_digits : (c : After-from-in-loop-byte) → c.from-in-loop-byte.result * 2 ^ c.loop-byte.shift % 18446744073709551616 ≡ (c.in_ok-byte.byte - 128) * 2 ^ c.loop-byte.shift
more_digits c = rw c.from-in-loop-byte.ensures (shl_without_overflow _ _ 7 (omega arith) (omega arith))

more : (c : After-from-in-loop-byte) → IsSoFar c.args.bits c.args.self.now.rest.now (c.loop-byte.value + (c.in_ok-byte.byte - 128) * 2 ^ c.loop-byte.shift) (c.loop-byte.shift + 7) c.byte.new.self.rest.now
more c =
    let s = at_byte _ _ _ _ _ _ _ c.loop-byte.invariant c.in_ok-byte.ensures in
    number_step _ _ _ _ _ _ s c.if-byte-lt-MORE_BYTES.false (omega arith) c.if-left-le-GROUP_BITS.false

pub overflow_add-value : goal.overflow_add-value
overflow_add-value c =
    let limit : 2 ^ (c.loop-byte.shift + 7) ≤ 2 ^ 64 = pow_mono {j = 64} (omega arith) in
    rw (more_digits c) (omega (arith, (more c).low))

pub loop-byte-preserved : goal.loop-byte-preserved
loop-byte-preserved c = rw (more_digits c) (more c)
