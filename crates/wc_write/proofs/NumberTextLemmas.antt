-- The text of a number spells it, and nothing shorter does.
use Rattle.std.proofs.Common.{◌≡◌, ℕ, zero, suc, ◌+◌, ◌-◌, ◌*◌, ◌/◌, ◌%◌, ◌^◌, ◌<◌, ◌≤◌, List, ◌∷◌, length, subst, arith, inl, inr}
use Rattle.std.proofs.Math.Nat.{div-lt_iff_lt-mul}
use Rattle.std.proofs.Math.Pow.{pow_mono}
use Rattle.std.proofs.lemmas.Nat.{pow-add}
use Rattle.std.proofs.lemmas.Bool.{cases_lt}
use Rattle.std.proofs.lemmas.List.Elements.{All-head, All-tail}
use Rattle.wc_read.specs.Formats.{SpellsNumber, last, more}
use Rattle.wc_write.specs.Text.{digits}
use Rattle.wc_write.specs.Values.{AreBytes}
use Rattle.wc_write.proofs.DigitLemmas.{digits_none, digits_last, digits_more}

-- a number past seven bits has more than seven, and what is above its low seven has seven less
past_seven : (bits n : ℕ) → 128 ≤ n → n < 2 ^ bits → 7 < bits
past_seven bits n large fits = elim (cases_lt 7 bits) [
  | inl lt ↦ lt
  | inr le ↦ let limit : 2 ^ bits ≤ 2 ^ 7 = pow_mono {j = 7} le in absurd (omega arith)
]

high_fits : (bits n : ℕ) → 7 < bits → n < 2 ^ bits → n / 128 < 2 ^ (bits - 7)
high_fits bits n seven fits =
    let e : bits - 7 + 7 ≡ bits = omega arith in
    let p : 2 ^ (bits - 7 + 7) ≡ 2 ^ (bits - 7) * 2 ^ 7 = pow-add 2 (bits - 7) 7 in
    let q : 2 ^ bits ≡ 2 ^ (bits - 7) * 128 = rw e at p in
    (div-lt_iff_lt-mul {k = 128} (omega arith)).1 (omega arith)

pub number_spelled : (left bits n : ℕ) → bits ≤ 7 * suc left → n < 2 ^ bits → SpellsNumber bits (digits left n) n
number_spelled zero bits n width fits =
    let limit : 2 ^ bits ≤ 2 ^ 7 = pow_mono {j = 7} (omega arith) in
    let small : n < 128 = omega arith in
    rw (digits_last zero n small) (last small fits)
number_spelled (suc left) bits n width fits =
    elim (cases_lt n 128) [
      | inl small ↦ rw (digits_last (suc left) n small) (last small fits)
      | inr large ↦
          let seven : 7 < bits = past_seven bits n large fits in
          let back : 128 + n % 128 - 128 + 128 * (n / 128) ≡ n = omega arith in
          let spelled : SpellsNumber bits ((128 + n % 128) ∷ digits left (n / 128)) (128 + n % 128 - 128 + 128 * (n / 128)) =
          more seven (omega arith) (number_spelled left (bits - 7) (n / 128) (omega arith) (high_fits bits n seven fits)) in
          rw (digits_more left n large) (subst (λ (m : ℕ). SpellsNumber bits ((128 + n % 128) ∷ digits left (n / 128)) m) back spelled)
    ]

-- a spelling has a byte
pub some_byte : {bits n : ℕ} {bytes : List ℕ} → SpellsNumber bits bytes n → 0 < length bytes
some_byte (last small fits) = omega arith
some_byte (more seven large s) = omega arith

pub number_shortest : (left : ℕ) {bits n : ℕ} {bytes : List ℕ} → SpellsNumber bits bytes n → AreBytes bytes → length (digits left n) ≤ length bytes
number_shortest left {n = n} (last small fits) all = rw (digits_last left n small) (omega arith)
number_shortest zero (more {b = b} {high = high} {bytes = bytes} seven large s) all = rw (digits_none (b - 128 + 128 * high)) (omega arith)
number_shortest (suc left) (more {b = b} {high = high} {bytes = bytes} seven large s) all =
    let byte : b < 256 = All-head (λ (b : ℕ). b < 256) b bytes all in
    elim (cases_lt (b - 128 + 128 * high) 128) [
      | inl low ↦ rw (digits_last (suc left) (b - 128 + 128 * high) low) (omega arith)
      | inr big ↦
          let up : (b - 128 + 128 * high) / 128 ≡ high = omega arith in
          rw (digits_more left (b - 128 + 128 * high) big, up) (let rest = number_shortest left s (All-tail (λ (b : ℕ). b < 256) b bytes all) in omega arith)
    ]

-- a text has a byte
pub number_some : (left n : ℕ) → 0 < length (digits left n)
unfolding digits
number_some zero n = omega arith
number_some (suc left) n = elim (cases_lt n 128) [
  | inl small ↦ rw (digits_last (suc left) n small) (omega arith)
  | inr large ↦ rw (digits_more left n large) (omega arith)
]
