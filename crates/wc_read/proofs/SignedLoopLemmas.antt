-- The loop that reads a signed number.
use Rattle.std.proofs.Common.{◌≡◌, ℕ, ◌+◌, ◌-◌, ◌*◌, ◌^◌, ◌<◌, ◌≤◌, List, [], ◌∷◌, ℤ, pos, negsuc, Option, Some, None, refl, ◌∙◌, ap, arith}
use Rattle.std.proofs.Math.Pow.{pow_mono}
use Rattle.std.specs.Prelude.{option_map, ok_or}
use Rattle.std.proofs.lemmas.Nat.{pow-add}
use Rattle.std.proofs.lemmas.Bool.Decides.{nat_tests}
use Rattle.wc_read.specs.declared.fault.ReadFault.TheVariants.{BadNumber}
use Rattle.wc_read.specs.Reading.Reader.{GivesWithoutMemory}
use Rattle.wc_read.specs.Options.{◌>>=◌}
use Rattle.wc_read.specs.Signed.{above}
use Rattle.wc_read.specs.Reading.Signed.{signed_at, last_of}
use Rattle.wc_read.proofs.OptionsLemmas.{bind_none}
use Rattle.wc_read.proofs.NumbersLemmas.{below_more}

-- a number with a rest, and one above low bits
abbrev pub ending : List ℕ → ℤ → Option (ℤ × List ℕ)
ending rest z = Some (z, rest)

abbrev pub lifted : (ℤ → ℤ) → ℤ × List ℕ → Option (ℤ × List ℕ)
lifted f high = Some (f high.0, high.1)

-- the low bits were read; what the rest gives completes what all of the bytes give
pub record IsSignedSoFar (bits : ℕ) (bytes : List ℕ) (value shift : ℕ) (rest : List ℕ) : Type 0 where
  pub within : shift < bits
  pub low : value < 2 ^ shift
  pub gives : signed_at bits bytes ≡ (signed_at (bits - shift) rest >>= λ high. Some (above (2 ^ shift) value high.0, high.1))

pub signed_last : (bits b : ℕ) (rest : List ℕ) → b < 128 → signed_at bits (b ∷ rest) ≡ (last_of bits b >>= λ z. Some (z, rest))
unfolding signed_at
signed_last bits b rest small = grind (arith, nat_tests)

pub signed_more : (bits b : ℕ) (rest : List ℕ) → 128 ≤ b → 7 < bits → signed_at bits (b ∷ rest) ≡ (signed_at (bits - 7) rest >>= λ high. Some (above 128 (b - 128) high.0, high.1))
unfolding signed_at
signed_more bits b rest large left = grind (arith, nat_tests)

pub signed_too_long : (bits b : ℕ) (rest : List ℕ) → 128 ≤ b → bits ≤ 7 → signed_at bits (b ∷ rest) ≡ None
unfolding signed_at
signed_too_long bits b rest large left = grind (arith, nat_tests)

pub signed_empty : (bits : ℕ) → signed_at bits [] ≡ None
unfolding signed_at
signed_empty bits = refl

-- nothing was read
above_nothing : (z : ℤ) → z ≡ above (2 ^ 0) 0 z
above_nothing (pos n) = ap pos (omega arith)
above_nothing (negsuc m) = ap negsuc (omega arith)

complete : (o : Option (ℤ × List ℕ)) → o ≡ (o >>= λ high. Some (above (2 ^ 0) 0 high.0, high.1))
complete None = refl
complete (Some x) = ap (λ (z : ℤ). Some (z, x.1)) (above_nothing x.0)

pub signed_start : (bits : ℕ) (bytes : List ℕ) → 0 < bits → IsSignedSoFar bits bytes 0 0 bytes
signed_start bits bytes some = record { within = some; low = omega arith; gives = let e : bits - 0 ≡ bits = omega arith in rw e (complete (signed_at bits bytes)) }

-- the last byte was read
two_ends : (o : Option ℤ) (f : ℤ → ℤ) (rest : List ℕ) → ((o >>= ending rest) >>= lifted f) ≡ (o >>= λ z. ending rest (f z))
two_ends None f rest = refl
two_ends (Some z) f rest = refl

pub signed_end : (bits value shift b : ℕ) (bytes rest : List ℕ) → IsSignedSoFar bits bytes value shift (b ∷ rest) → b < 128 → signed_at bits bytes ≡ (last_of (bits - shift) b >>= λ z. Some (above (2 ^ shift) value z, rest))
signed_end bits value shift b bytes rest s small =
    s.gives ∙ ap (λ (o : Option (ℤ × List ℕ)). o >>= λ high. Some (above (2 ^ shift) value high.0, high.1)) (signed_last (bits - shift) b rest small) ∙ two_ends (last_of (bits - shift) b) (above (2 ^ shift) value) rest

-- what is left gives no number
pub signed_fails : (bits value shift : ℕ) (bytes rest : List ℕ) → IsSignedSoFar bits bytes value shift rest → signed_at (bits - shift) rest ≡ None → signed_at bits bytes ≡ None
signed_fails bits value shift bytes rest s none = s.gives ∙ bind_none _ _ none

-- seven bits more were read
complement : (p v d c m : ℕ) → v < p → c + d ≡ 127 → p - 1 - v + p * (c + 128 * m) ≡ p * 128 - 1 - (v + d * p) + p * 128 * m
complement p v d c m low e = let h : p * (c + d) ≡ p * 127 = ap (λ (x : ℕ). p * x) e in omega arith

above_twice : (p v d : ℕ) (z : ℤ) → v < p → d < 128 → above p v (above 128 d z) ≡ above (p * 128) (v + d * p) z
above_twice p v d (pos n) low small = ap pos (omega arith)
above_twice p v d (negsuc m) low small = ap negsuc (complement p v d (127 - d) m low (omega arith))

two_steps : (p v d : ℕ) (o : Option (ℤ × List ℕ)) → v < p → d < 128 → ((o >>= lifted (above 128 d)) >>= lifted (above p v)) ≡ (o >>= lifted (above (p * 128) (v + d * p)))
two_steps p v d None low small = refl
two_steps p v d (Some h) low small = ap (λ (z : ℤ). Some (z, h.1)) (above_twice p v d h.0 low small)

pub signed_step : (bits value shift b : ℕ) (bytes rest : List ℕ) → IsSignedSoFar bits bytes value shift (b ∷ rest) → 128 ≤ b → b < 256 → 7 < bits - shift → IsSignedSoFar bits bytes (value + (b - 128) * 2 ^ shift) (shift + 7) rest
signed_step bits value shift b bytes rest s large byte left = record {
  within = omega (arith, s.within);
  low = rw (pow-add 2 shift 7) (below_more value (2 ^ shift) (b - 128) s.low (omega arith));
  gives =
      let p : 2 ^ (shift + 7) ≡ 2 ^ shift * 128 = pow-add 2 shift 7 in
      let e : bits - (shift + 7) ≡ bits - shift - 7 = omega arith in
      rw (p, e) (s.gives ∙ ap (λ (o : Option (ℤ × List ℕ)). o >>= λ high. Some (above (2 ^ shift) value high.0, high.1)) (signed_more (bits - shift) b rest large left) ∙ two_steps (2 ^ shift) value (b - 128) (signed_at (bits - shift - 7) rest) s.low (omega arith));
}

-- digits below the sign's
pub sign_fits : (digits left : ℕ) → digits < 64 → 7 ≤ left → digits < 2 ^ (left - 1)
sign_fits digits left small limit = let k : 6 ≤ left - 1 = omega arith in let h : 2 ^ 6 ≤ 2 ^ (left - 1) = pow_mono k in omega arith

-- a number, or else a fault
pub gives_or_none : (o : Option ℤ) (f : ℤ → ℤ) (rest : List ℕ) (total : Option (ℤ × List ℕ)) → total ≡ (o >>= λ z. ending rest (f z)) → GivesWithoutMemory (λ (x : ℤ). x) (ok_or (option_map f o) BadNumber) rest total
gives_or_none None f rest total e = (e, (λ same. cc same), λ same. cc same)
gives_or_none (Some z) f rest total e = e
