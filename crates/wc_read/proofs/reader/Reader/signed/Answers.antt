use Rattle.std.proofs.Common.{◌≡◌, ◌≤◌, ◌^◌, ℕ, ◌+◌, ◌-◌, ◌*◌, ◌%◌, List, ◌∷◌, Some, arith}
use Rattle.std.proofs.Math.Pow.{pow_mono}
use Rattle.std.proofs.lemmas.Result.{err_from_is_err_and}
use Rattle.wc_read.specs.Reading.Reader.{byte_at}
use Rattle.wc_read.proofs.NumbersLemmas.{byte_cut, byte_none, shl_without_overflow}
use Rattle.wc_read.proofs.SignedLoopLemmas.{IsSignedSoFar, signed_fails, signed_empty, signed_end, signed_too_long, signed_step, gives_or_none}
use Rattle.wc_read.proofs.reader.Reader.signed.Goals as goal
use Rattle.wc_read.proofs.reader.Reader.signed.Goals.{After-from}

-- the low bits, and the bytes from the one that was taken
at_byte : (bits : ℕ) (bytes : List ℕ) (value shift : ℕ) (rest : List ℕ) (b : ℕ) (others : List ℕ) → IsSignedSoFar bits bytes value shift rest → byte_at rest ≡ Some (b, others) → IsSignedSoFar bits bytes value shift (b ∷ others)
at_byte bits bytes value shift rest b others s e = let cut = byte_cut rest b others e in rw cut at s

pub returns-in_err-byte-clause-read : goal.returns-in_err-byte-clause-read
returns-in_err-byte-clause-read c =
    let p = err_from_is_err_and c.from_residual.result c.from_residual.ensures.1 in
    let none = byte_none _ c.in_err-byte.ensures.0 in
    rw (p.1, p.2) (signed_fails _ _ _ _ _ c.loop-byte.invariant (rw none (signed_empty _)), c.in_err-byte.ensures.1, c.in_err-byte.ensures.2)

pub returns-then-byte-lt-MORE_BYTES-clause-read : goal.returns-then-byte-lt-MORE_BYTES-clause-read
returns-then-byte-lt-MORE_BYTES-clause-read c =
    let s = at_byte _ _ _ _ _ _ _ c.loop-byte.invariant c.in_ok-byte.ensures in
    rw (c.ok_or.ensures.value, c.completed.ensures.value) (gives_or_none _ _ _ _ (signed_end _ _ _ _ _ _ s c.if-byte-lt-MORE_BYTES.true))

pub returns-then-left-le-GROUP_BITS-clause-read : goal.returns-then-left-le-GROUP_BITS-clause-read
returns-then-left-le-GROUP_BITS-clause-read c =
    let s = at_byte _ _ _ _ _ _ _ c.loop-byte.invariant c.in_ok-byte.ensures in
    (signed_fails _ _ _ _ _ s (signed_too_long _ _ _ c.if-byte-lt-MORE_BYTES.false c.if-left-le-GROUP_BITS.true), (λ same. cc same), λ same. cc same)

more_digits : (c : After-from) → c.from.result * 2 ^ c.loop-byte.shift % 18446744073709551616 ≡ (c.in_ok-byte.byte - 128) * 2 ^ c.loop-byte.shift
more_digits c = rw c.from.ensures (shl_without_overflow _ _ 7 (omega arith) (omega arith))

more : (c : After-from) → IsSignedSoFar c.args.bits c.args.self.now.rest.now (c.loop-byte.low + (c.in_ok-byte.byte - 128) * 2 ^ c.loop-byte.shift) (c.loop-byte.shift + 7) c.byte.new.self.rest.now
more c =
    let s = at_byte _ _ _ _ _ _ _ c.loop-byte.invariant c.in_ok-byte.ensures in
    signed_step _ _ _ _ _ _ s c.if-byte-lt-MORE_BYTES.false (omega arith) c.if-left-le-GROUP_BITS.false

pub overflow_add-low : goal.overflow_add-low
overflow_add-low c =
    let limit : 2 ^ (c.loop-byte.shift + 7) ≤ 2 ^ 64 = pow_mono {j = 64} (omega arith) in
    rw (more_digits c) (omega (arith, (more c).low))

pub loop-byte-preserved : goal.loop-byte-preserved
loop-byte-preserved c = rw (more_digits c) (more c)
