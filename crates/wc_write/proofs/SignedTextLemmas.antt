-- The text of a signed number spells it, and nothing shorter does.
use Rattle.std.proofs.Common.{◌≡◌, ℕ, zero, suc, ◌+◌, ◌-◌, ◌*◌, ◌/◌, ◌%◌, ◌^◌, ◌<◌, ◌≤◌, List, [], ◌∷◌, length, ℤ, pos, negsuc, true, false, subst, arith, inl, inr}
use Rattle.std.proofs.Math.Nat.{div-lt_iff_lt-mul}
use Rattle.std.proofs.Math.Pow.{pow_mono}
use Rattle.std.proofs.lemmas.Nat.{pow-add}
use Rattle.std.proofs.lemmas.Bool.{cases_lt}
use Rattle.std.proofs.lemmas.List.Elements.{All-head, All-tail}
use Rattle.wc_read.specs.Signed.{above, FitsBits, SpellsSigned, last_positive, last_negative, more_signed}
use Rattle.wc_write.specs.Text.{signed_digits, signed_text}
use Rattle.wc_write.specs.Values.{AreBytes}
use Rattle.wc_write.proofs.SignedDigitLemmas.{signed_none, signed_last, signed_more}

-- digits of either sign
abbrev signed_with : ℕ → ℤ → List ℕ
signed_with left (pos n) = signed_digits false left n
signed_with left (negsuc m) = signed_digits true left m

-- a number past six bits has a sign after more than seven, and what is above its low seven has seven less
past_seven : (bits n : ℕ) → 64 ≤ n → n < 2 ^ (bits - 1) → 7 < bits
past_seven bits n large fits = elim (cases_lt 7 bits) [
  | inl lt ↦ lt
  | inr le ↦ let limit : 2 ^ (bits - 1) ≤ 2 ^ 6 = pow_mono {j = 6} (omega arith) in absurd (omega arith)
]

-- a bit for the sign and seven digits
seven_more : (bits : ℕ) → 7 < bits → 2 ^ (bits - 1) ≡ 2 ^ (bits - 7 - 1) * 128
seven_more bits seven =
    let e : bits - 7 - 1 + 7 ≡ bits - 1 = omega arith in
    let p : 2 ^ (bits - 7 - 1 + 7) ≡ 2 ^ (bits - 7 - 1) * 2 ^ 7 = pow-add 2 (bits - 7 - 1) 7 in
    rw e at p

high_fits : (bits n : ℕ) → 7 < bits → n < 2 ^ (bits - 1) → n / 128 < 2 ^ (bits - 7 - 1)
high_fits bits n seven fits =
    let q : 2 ^ (bits - 1) ≡ 2 ^ (bits - 7 - 1) * 128 = seven_more bits seven in
    (div-lt_iff_lt-mul {k = 128} (omega arith)).1 (omega arith)

last_small : (bits n : ℕ) → bits ≤ 7 → n < 2 ^ (bits - 1) → n < 64
last_small bits n width fits = let limit : 2 ^ (bits - 1) ≤ 2 ^ 6 = pow_mono {j = 6} (omega arith) in omega arith

positive_last : (bits n : ℕ) → n < 64 → n < 2 ^ (bits - 1) → SpellsSigned bits (n ∷ []) (pos n)
positive_last bits n small fits = last_positive small fits

positive_spelled : (left bits n : ℕ) → bits ≤ 7 * suc left → n < 2 ^ (bits - 1) → SpellsSigned bits (signed_digits false left n) (pos n)
positive_spelled zero bits n width fits =
    let small : n < 64 = last_small bits n (omega arith) fits in
    rw (signed_last false zero n small) (positive_last bits n small fits)
positive_spelled (suc left) bits n width fits =
    elim (cases_lt n 64) [
      | inl small ↦ rw (signed_last false (suc left) n small) (positive_last bits n small fits)
      | inr large ↦
          let seven : 7 < bits = past_seven bits n large fits in
          let back : 128 + n % 128 - 128 + 128 * (n / 128) ≡ n = omega arith in
          let spelled : SpellsSigned bits ((128 + n % 128) ∷ signed_digits false left (n / 128)) (pos (128 + n % 128 - 128 + 128 * (n / 128))) =
          more_signed seven (omega arith) (positive_spelled left (bits - 7) (n / 128) (omega arith) (high_fits bits n seven fits)) in
          rw (signed_more false left n large) (subst (λ (m : ℕ). SpellsSigned bits ((128 + n % 128) ∷ signed_digits false left (n / 128)) (pos m)) back spelled)
    ]

negative_last : (bits m : ℕ) → m < 64 → m < 2 ^ (bits - 1) → SpellsSigned bits ((127 - m) ∷ []) (negsuc m)
negative_last bits m small fits =
    let back : 127 - (127 - m) ≡ m = omega arith in
    let spelled : SpellsSigned bits ((127 - m) ∷ []) (negsuc (127 - (127 - m))) = last_negative (omega arith) (omega arith) (omega arith) in
    subst (λ (x : ℕ). SpellsSigned bits ((127 - m) ∷ []) (negsuc x)) back spelled

negative_spelled : (left bits m : ℕ) → bits ≤ 7 * suc left → m < 2 ^ (bits - 1) → SpellsSigned bits (signed_digits true left m) (negsuc m)
negative_spelled zero bits m width fits =
    let small : m < 64 = last_small bits m (omega arith) fits in
    rw (signed_last true zero m small) (negative_last bits m small fits)
negative_spelled (suc left) bits m width fits =
    elim (cases_lt m 64) [
      | inl small ↦ rw (signed_last true (suc left) m small) (negative_last bits m small fits)
      | inr large ↦
          let seven : 7 < bits = past_seven bits m large fits in
          let back : 128 - 1 - (128 + (127 - m % 128) - 128) + 128 * (m / 128) ≡ m = omega arith in
          let spelled : SpellsSigned bits ((128 + (127 - m % 128)) ∷ signed_digits true left (m / 128)) (negsuc (128 - 1 - (128 + (127 - m % 128) - 128) + 128 * (m / 128))) =
          more_signed seven (omega arith) (negative_spelled left (bits - 7) (m / 128) (omega arith) (high_fits bits m seven fits)) in
          rw (signed_more true left m large) (subst (λ (x : ℕ). SpellsSigned bits ((128 + (127 - m % 128)) ∷ signed_digits true left (m / 128)) (negsuc x)) back spelled)
    ]

pub signed_spelled : (bits : ℕ) (z : ℤ) → bits ≤ 64 → FitsBits bits z → SpellsSigned bits (signed_text z) z
signed_spelled bits (pos n) width fits = positive_spelled 9 bits n (omega arith) fits
signed_spelled bits (negsuc m) width fits = negative_spelled 9 bits m (omega arith) fits

-- a number has its bits
above_fits : (bits d : ℕ) (z : ℤ) → 7 < bits → d < 128 → FitsBits (bits - 7) z → FitsBits bits (above 128 d z)
above_fits bits d (pos n) seven small fits = let q : 2 ^ (bits - 1) ≡ 2 ^ (bits - 7 - 1) * 128 = seven_more bits seven in omega arith
above_fits bits d (negsuc m) seven small fits = let q : 2 ^ (bits - 1) ≡ 2 ^ (bits - 7 - 1) * 128 = seven_more bits seven in omega arith

pub signed_fits : {bits : ℕ} {bytes : List ℕ} {z : ℤ} → SpellsSigned bits bytes z → AreBytes bytes → FitsBits bits z
signed_fits (last_positive small fits) all = fits
signed_fits (last_negative large small fits) all = fits
signed_fits (more_signed {bits = bits} {b = b} {high = high} {bytes = bytes} seven large s) all =
    let byte : b < 256 = All-head (λ (b : ℕ). b < 256) b bytes all in
    above_fits bits (b - 128) high seven (omega arith) (signed_fits s (All-tail (λ (b : ℕ). b < 256) b bytes all))

-- one digit more than those of what is above
above_longer : (left d : ℕ) (z : ℤ) → d < 128 → length (signed_with (suc left) (above 128 d z)) ≤ suc (length (signed_with left z))
above_longer left d (pos n) small = elim (cases_lt (d + 128 * n) 64) [
  | inl low ↦ rw (signed_last false (suc left) (d + 128 * n) low) (omega arith)
  | inr big ↦ let up : (d + 128 * n) / 128 ≡ n = omega arith in rw (signed_more false left (d + 128 * n) big, up) (omega arith)
]
above_longer left d (negsuc m) small = elim (cases_lt (128 - 1 - d + 128 * m) 64) [
  | inl low ↦ rw (signed_last true (suc left) (128 - 1 - d + 128 * m) low) (omega arith)
  | inr big ↦ let up : (128 - 1 - d + 128 * m) / 128 ≡ m = omega arith in rw (signed_more true left (128 - 1 - d + 128 * m) big, up) (omega arith)
]

one_digit : (z : ℤ) → length (signed_with zero z) ≤ 1
one_digit (pos n) = rw (signed_none false n) (omega arith)
one_digit (negsuc m) = rw (signed_none true m) (omega arith)

with_shortest : (left : ℕ) {bits : ℕ} {bytes : List ℕ} {z : ℤ} → SpellsSigned bits bytes z → AreBytes bytes → length (signed_with left z) ≤ length bytes
with_shortest left (last_positive {b = b} small fits) all = rw (signed_last false left b small) (omega arith)
with_shortest left (last_negative {b = b} large small fits) all = rw (signed_last true left (127 - b) (omega arith)) (omega arith)
with_shortest zero (more_signed {b = b} {high = high} {bytes = bytes} seven large s) all = omega (arith, one_digit (above 128 (b - 128) high))
with_shortest (suc left) (more_signed {b = b} {high = high} {bytes = bytes} seven large s) all =
    let byte : b < 256 = All-head (λ (b : ℕ). b < 256) b bytes all in
    omega (arith, above_longer left (b - 128) high (omega arith), with_shortest left s (All-tail (λ (b : ℕ). b < 256) b bytes all))

pub signed_shortest : {bits : ℕ} {bytes : List ℕ} (z : ℤ) → SpellsSigned bits bytes z → AreBytes bytes → length (signed_text z) ≤ length bytes
signed_shortest (pos n) s all = with_shortest 9 s all
signed_shortest (negsuc m) s all = with_shortest 9 s all
