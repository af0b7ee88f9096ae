-- The loop that reads a number.
use Rattle.std.proofs.Common.{◌≡◌, ℕ, ◌+◌, ◌-◌, ◌*◌, ◌/◌, ◌%◌, ◌^◌, ◌<◌, ◌≤◌, List, [], ◌∷◌, Option, Some, None, refl, ◌∙◌, ap, arith, inl, inr}
use Rattle.std.proofs.Math.Nat.{mod-eq_of_lt, div-eq_of_lt, div-lt_iff_lt-mul, mul-le-mul_right}
use Rattle.std.proofs.Math.Pow.{pow_mono}
use Rattle.std.proofs.lemmas.Nat.{pow-add, pow_pos, shl_below}
use Rattle.std.proofs.lemmas.Bool.Decides.{nat_tests}
use Rattle.std.proofs.lemmas.Bool.{cases_lt}
use Rattle.wc_read.specs.Reading.Reader.{number_at, byte_at}
use Rattle.wc_read.specs.Options.{◌>>=◌}
use Rattle.wc_read.proofs.OptionsLemmas.{some_pair, some_none, bind_none, bind_some}

-- the low bits were read; what the rest gives completes what all of the bytes give
pub record IsSoFar (bits : ℕ) (bytes : List ℕ) (value shift : ℕ) (rest : List ℕ) : Type 0 where
  pub within : shift < bits
  pub low : value < 2 ^ shift
  pub gives : number_at bits bytes ≡ (number_at (bits - shift) rest >>= λ high. Some (value + 2 ^ shift * high.0, high.1))

-- what byte_at says of the bytes
pub byte_cut : (bytes : List ℕ) (b : ℕ) (rest : List ℕ) → byte_at bytes ≡ Some (b, rest) → bytes ≡ b ∷ rest
byte_cut [] b rest e = absurd cc
byte_cut (x ∷ xs) b rest e = let p = some_pair x b xs rest e in rw (p.0, p.1) refl

pub byte_none : (bytes : List ℕ) → byte_at bytes ≡ None → bytes ≡ []
byte_none [] e = refl
byte_none (x ∷ xs) e = some_none (x, xs) e

-- a byte at which a number ends, ends too high, or goes on
pub number_last : (bits b : ℕ) (rest : List ℕ) → b < 128 → b < 2 ^ bits → number_at bits (b ∷ rest) ≡ Some (b, rest)
unfolding number_at
number_last bits b rest small fits = grind (arith, nat_tests)

pub number_high : (bits b : ℕ) (rest : List ℕ) → b < 128 → 2 ^ bits ≤ b → number_at bits (b ∷ rest) ≡ None
unfolding number_at
number_high bits b rest small high = grind (arith, nat_tests)

pub number_more : (bits b : ℕ) (rest : List ℕ) → 128 ≤ b → 7 < bits → number_at bits (b ∷ rest) ≡ (number_at (bits - 7) rest >>= λ high. Some (b - 128 + 128 * high.0, high.1))
unfolding number_at
number_more bits b rest large left = grind (arith, nat_tests)

pub number_too_long : (bits b : ℕ) (rest : List ℕ) → 128 ≤ b → bits ≤ 7 → number_at bits (b ∷ rest) ≡ None
unfolding number_at
number_too_long bits b rest large left = grind (arith, nat_tests)

pub number_empty : (bits : ℕ) → number_at bits [] ≡ None
unfolding number_at
number_empty bits = refl

-- nothing was read
complete : (o : Option (ℕ × List ℕ)) → o ≡ (o >>= λ high. Some (0 + 2 ^ 0 * high.0, high.1))
complete None = refl
complete (Some x) = let e : 0 + 2 ^ 0 * x.0 ≡ x.0 = omega arith in rw e refl

pub number_start : (bits : ℕ) (bytes : List ℕ) → 0 < bits → IsSoFar bits bytes 0 0 bytes
number_start bits bytes some = record { within = some; low = omega arith; gives = let e : bits - 0 ≡ bits = omega arith in rw e (complete (number_at bits bytes)) }

-- the last byte was read
pub number_end : (bits value shift b : ℕ) (bytes rest : List ℕ) → IsSoFar bits bytes value shift (b ∷ rest) → b < 128 → b < 2 ^ (bits - shift) → number_at bits bytes ≡ Some (value + 2 ^ shift * b, rest)
number_end bits value shift b bytes rest s small fits = s.gives ∙ bind_some _ _ (b, rest) (number_last (bits - shift) b rest small fits)

-- what is left gives no number
pub number_fails : (bits value shift : ℕ) (bytes rest : List ℕ) → IsSoFar bits bytes value shift rest → number_at (bits - shift) rest ≡ None → number_at bits bytes ≡ None
number_fails bits value shift bytes rest s none = s.gives ∙ bind_none _ _ none

-- seven bits more were read
abbrev after : ℕ → ℕ → (ℕ × List ℕ) → Option (ℕ × List ℕ)
after value p high = Some (value + p * high.0, high.1)

two_steps : (value p d : ℕ) (o : Option (ℕ × List ℕ)) → ((o >>= after d 128) >>= after value p) ≡ (o >>= after (value + d * p) (p * 128))
two_steps value p d None = refl
two_steps value p d (Some h) = let e : value + p * (d + 128 * h.0) ≡ value + d * p + p * 128 * h.0 = omega arith in rw e refl

pub below_more : (value p d : ℕ) → value < p → d < 128 → value + d * p < p * 128
below_more value p d low small = omega (arith, mul-le-mul_right p (let h : d ≤ 127 = omega arith in h))

pub number_step : (bits value shift b : ℕ) (bytes rest : List ℕ) → IsSoFar bits bytes value shift (b ∷ rest) → 128 ≤ b → b < 256 → 7 < bits - shift → IsSoFar bits bytes (value + (b - 128) * 2 ^ shift) (shift + 7) rest
number_step bits value shift b bytes rest s large byte left = record {
  within = omega (arith, s.within);
  low = rw (pow-add 2 shift 7) (below_more value (2 ^ shift) (b - 128) s.low (omega arith));
  gives =
      let p : 2 ^ (shift + 7) ≡ 2 ^ shift * 128 = pow-add 2 shift 7 in
      let e : bits - (shift + 7) ≡ bits - shift - 7 = omega arith in
      rw (p, e) (s.gives ∙ ap (λ (o : Option (ℕ × List ℕ)). o >>= λ high. Some (value + 2 ^ shift * high.0, high.1)) (number_more (bits - shift) b rest large left) ∙ two_steps value (2 ^ shift) (b - 128) (number_at (bits - shift - 7) rest));
}

-- shifted digits lose no bits, and their sum with the low bits fits
pub shl_without_overflow : (d shift width : ℕ) → d < 2 ^ width → shift + width ≤ 64 → d * 2 ^ shift % 18446744073709551616 ≡ d * 2 ^ shift
shl_without_overflow d shift width small fits =
    let below : d * 2 ^ shift < 2 ^ (width + shift) = shl_below d width shift small in
    let limit : 2 ^ (width + shift) ≤ 2 ^ 64 = pow_mono {j = 64} (omega arith) in
    let h : d * 2 ^ shift < 18446744073709551616 = omega arith in
    mod-eq_of_lt h

pub sum_below : (value d shift width : ℕ) → value < 2 ^ shift → d < 2 ^ width → value + d * 2 ^ shift < 2 ^ (width + shift)
sum_below value d shift width low small = rw (pow-add 2 width shift) (omega (arith, mul-le-mul_right (2 ^ shift) (let h : d + 1 ≤ 2 ^ width = omega arith in h)))

-- the last byte fits the bits that are left, or it does not
pub fits_left : (b left : ℕ) → b < 128 → 7 ≤ left → b < 2 ^ left
fits_left b left small limit = let h : 2 ^ 7 ≤ 2 ^ left = pow_mono limit in omega arith

pub fits_if_shifted_out : (b left : ℕ) → b / 2 ^ left ≡ 0 → b < 2 ^ left
fits_if_shifted_out b left e = let h : b / 2 ^ left < 1 = omega arith in omega (arith, (div-lt_iff_lt-mul (pow_pos left)).0 h)

pub high_if_not : (b left : ℕ) → (b / 2 ^ left ≡ 0 → ⊥) → 2 ^ left ≤ b
high_if_not b left ne = elim (cases_lt b (2 ^ left)) [ inl lt ↦ absurd (ne (div-eq_of_lt lt)) | inr le ↦ le ]

-- the value that the last byte completes
pub last_digits : (bits shift b : ℕ) → shift < bits → bits ≤ 64 → b < 2 ^ (bits - shift) → b * 2 ^ shift % 18446744073709551616 ≡ 2 ^ shift * b
last_digits bits shift b within limit fits = shl_without_overflow b shift (bits - shift) fits (omega arith) ∙ omega arith

pub last_below : (bits value shift b : ℕ) → shift < bits → value < 2 ^ shift → b < 2 ^ (bits - shift) → value + 2 ^ shift * b < 2 ^ bits
last_below bits value shift b within low fits =
    let e : bits - shift + shift ≡ bits = omega arith in
    let h : value + b * 2 ^ shift < 2 ^ (bits - shift + shift) = sum_below value b shift (bits - shift) low fits in
    let k : value + b * 2 ^ shift < 2 ^ bits = rw e at h in
    omega arith

-- numbers of two to five bytes

two_digits : (bits a b : ℕ) (rest : List ℕ) → 14 ≤ bits → 128 ≤ a → b < 128 → number_at bits (a ∷ b ∷ rest) ≡ Some (a - 128 + 128 * b, rest)
two_digits bits a b rest width more small =
    number_more bits a (b ∷ rest) more (omega arith)
    ∙ bind_some (number_at (bits - 7) (b ∷ rest)) _ (b, rest) (number_last (bits - 7) b rest small (fits_left b (bits - 7) small (omega arith)))

three_digits : (bits a b c : ℕ) (rest : List ℕ) → 21 ≤ bits → 128 ≤ a → 128 ≤ b → c < 128 → number_at bits (a ∷ b ∷ c ∷ rest) ≡ Some (a - 128 + 128 * (b - 128 + 128 * c), rest)
three_digits bits a b c rest width more again small =
    number_more bits a (b ∷ c ∷ rest) more (omega arith)
    ∙ bind_some (number_at (bits - 7) (b ∷ c ∷ rest)) _ (b - 128 + 128 * c, rest) (two_digits (bits - 7) b c rest (omega arith) again small)

four_digits : (bits a b c d : ℕ) (rest : List ℕ) → 28 ≤ bits → 128 ≤ a → 128 ≤ b → 128 ≤ c → d < 128
    → number_at bits (a ∷ b ∷ c ∷ d ∷ rest) ≡ Some (a - 128 + 128 * (b - 128 + 128 * (c - 128 + 128 * d)), rest)
four_digits bits a b c d rest width more again third small =
    number_more bits a (b ∷ c ∷ d ∷ rest) more (omega arith)
    ∙ bind_some (number_at (bits - 7) (b ∷ c ∷ d ∷ rest)) _ (b - 128 + 128 * (c - 128 + 128 * d), rest) (three_digits (bits - 7) b c d rest (omega arith) again third small)

-- a last byte of four bits
five_digits : (bits a b c d e : ℕ) (rest : List ℕ) → 32 ≤ bits → 128 ≤ a → 128 ≤ b → 128 ≤ c → 128 ≤ d → e < 16
    → number_at bits (a ∷ b ∷ c ∷ d ∷ e ∷ rest) ≡ Some (a - 128 + 128 * (b - 128 + 128 * (c - 128 + 128 * (d - 128 + 128 * e))), rest)
five_digits bits a b c d e rest width first second third fourth small =
    let limit : 2 ^ 4 ≤ 2 ^ (bits - 7 - 7 - 7 - 7) = pow_mono {i = 4} {j = bits - 7 - 7 - 7 - 7} (omega arith) in
    number_more bits a (b ∷ c ∷ d ∷ e ∷ rest) first (omega arith)
    ∙ bind_some (number_at (bits - 7) (b ∷ c ∷ d ∷ e ∷ rest)) _ (b - 128 + 128 * (c - 128 + 128 * (d - 128 + 128 * e)), rest)
    (number_more (bits - 7) b (c ∷ d ∷ e ∷ rest) second (omega arith)
    ∙ bind_some (number_at (bits - 7 - 7) (c ∷ d ∷ e ∷ rest)) _ (c - 128 + 128 * (d - 128 + 128 * e), rest)
    (number_more (bits - 7 - 7) c (d ∷ e ∷ rest) third (omega arith)
    ∙ bind_some (number_at (bits - 7 - 7 - 7) (d ∷ e ∷ rest)) _ (d - 128 + 128 * e, rest)
    (number_more (bits - 7 - 7 - 7) d (e ∷ rest) fourth (omega arith)
    ∙ bind_some (number_at (bits - 7 - 7 - 7 - 7) (e ∷ rest)) _ (e, rest) (number_last (bits - 7 - 7 - 7 - 7) e rest (omega arith) (omega arith)))))

-- the same of bytes that are cut off one after another, with the digits shifted to their places

pub two_read : (bits : ℕ) (input : List ℕ) (a b : ℕ) (after_a after_b : List ℕ) → 32 ≤ bits → input ≡ a ∷ after_a → after_a ≡ b ∷ after_b → 128 ≤ a → b < 128
    → number_at bits input ≡ Some (a - 128 + b * 2 ^ 7 % 18446744073709551616, after_b)
two_read bits input a b after_a after_b width cut next more small =
    let value : a - 128 + 128 * b ≡ a - 128 + b * 2 ^ 7 % 18446744073709551616 = omega arith in
    rw (cut, next) (two_digits bits a b after_b (omega arith) more small ∙ ap (λ (n : ℕ). Some (n, after_b)) value)

pub three_read : (bits : ℕ) (input : List ℕ) (a b c : ℕ) (after_a after_b after_c : List ℕ) → 32 ≤ bits → input ≡ a ∷ after_a → after_a ≡ b ∷ after_b
    → after_b ≡ c ∷ after_c → 128 ≤ a → 128 ≤ b → b < 256 → c < 128
    → number_at bits input ≡ Some (a - 128 + (b - 128) * 2 ^ 7 % 18446744073709551616 + c * 2 ^ 14 % 18446744073709551616, after_c)
three_read bits input a b c after_a after_b after_c width cut next last more again byte small =
    let value : a - 128 + 128 * (b - 128 + 128 * c) ≡ a - 128 + (b - 128) * 2 ^ 7 % 18446744073709551616 + c * 2 ^ 14 % 18446744073709551616 = omega arith in
    rw (cut, next, last) (three_digits bits a b c after_c (omega arith) more again small ∙ ap (λ (n : ℕ). Some (n, after_c)) value)

pub four_read : (bits : ℕ) (input : List ℕ) (a b c d : ℕ) (after_a after_b after_c after_d : List ℕ) → 32 ≤ bits → input ≡ a ∷ after_a → after_a ≡ b ∷ after_b
    → after_b ≡ c ∷ after_c → after_c ≡ d ∷ after_d → 128 ≤ a → 128 ≤ b → b < 256 → 128 ≤ c → c < 256 → d < 128
    → number_at bits input ≡ Some (a - 128 + (b - 128) * 2 ^ 7 % 18446744073709551616 + (c - 128) * 2 ^ 14 % 18446744073709551616 + d * 2 ^ 21 % 18446744073709551616, after_d)
four_read bits input a b c d after_a after_b after_c after_d width cut next third last more again byte_b more_c byte_c small =
    let value : a - 128 + 128 * (b - 128 + 128 * (c - 128 + 128 * d)) ≡ a - 128 + (b - 128) * 2 ^ 7 % 18446744073709551616 + (c - 128) * 2 ^ 14 % 18446744073709551616 + d * 2 ^ 21 % 18446744073709551616 = omega arith in
    rw (cut, next, third, last) (four_digits bits a b c d after_d (omega arith) more again more_c small ∙ ap (λ (n : ℕ). Some (n, after_d)) value)

pub five_read : (bits : ℕ) (input : List ℕ) (a b c d e : ℕ) (after_a after_b after_c after_d after_e : List ℕ) → 32 ≤ bits → input ≡ a ∷ after_a → after_a ≡ b ∷ after_b
    → after_b ≡ c ∷ after_c → after_c ≡ d ∷ after_d → after_d ≡ e ∷ after_e → 128 ≤ a → 128 ≤ b → b < 256 → 128 ≤ c → c < 256 → 128 ≤ d → d < 256 → e < 16
    → number_at bits input ≡ Some (a - 128 + (b - 128) * 2 ^ 7 % 18446744073709551616 + (c - 128) * 2 ^ 14 % 18446744073709551616 + (d - 128) * 2 ^ 21 % 18446744073709551616 + e * 2 ^ 28 % 18446744073709551616, after_e)
five_read bits input a b c d e after_a after_b after_c after_d after_e width cut next third fourth last more more_b byte_b more_c byte_c more_d byte_d small =
    let value : a - 128 + 128 * (b - 128 + 128 * (c - 128 + 128 * (d - 128 + 128 * e)))
    ≡ a - 128 + (b - 128) * 2 ^ 7 % 18446744073709551616 + (c - 128) * 2 ^ 14 % 18446744073709551616 + (d - 128) * 2 ^ 21 % 18446744073709551616 + e * 2 ^ 28 % 18446744073709551616 = omega arith in
    rw (cut, next, third, fourth, last) (five_digits bits a b c d e after_e width more more_b more_c more_d small ∙ ap (λ (n : ℕ). Some (n, after_e)) value)

-- a byte that is a digit fits seven bits and more
pub seven_bits : (bits b : ℕ) → b < 128 → 7 ≤ bits → b < 2 ^ bits
seven_bits bits b small some = let p : 2 ^ 7 ≤ 2 ^ bits = pow_mono {j = bits} some in omega (arith, small, p)
