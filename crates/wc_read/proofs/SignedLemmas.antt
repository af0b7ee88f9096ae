-- Signed numbers are read as they are spelled.
use Rattle.std.proofs.Common.{◌≡◌, ℕ, ◌-◌, ◌^◌, ◌<◌, ◌≤◌, List, [], ◌∷◌, ◌++◌, ℤ, pos, negsuc, Some, None, sym, ◌∙◌, ap, arith, inl, inr, subst}
use Rattle.std.proofs.lemmas.Bool.{cases_lt}
use Rattle.std.proofs.lemmas.Bool.Decides.{nat_tests}
use Rattle.wc_read.specs.Signed.{above, SpellsSigned, last_positive, last_negative, more_signed}
use Rattle.wc_read.specs.Reading.Signed.{last_of, signed_at}
use Rattle.wc_read.proofs.OptionsLemmas.{some_same, some_none, some_pair, bind_some}
use Rattle.wc_read.proofs.MeetsLemmas.{Meets, bind_is}
use Rattle.wc_read.proofs.SignedLoopLemmas.{ending, lifted, signed_last, signed_more, signed_too_long, signed_empty}

-- the last byte, by its sign, where it fits and where it does not
positive_fits : (bits b : ℕ) → b < 64 → b < 2 ^ (bits - 1) → last_of bits b ≡ Some (pos b)
positive_fits bits b small fits = grind (arith, nat_tests)

positive_high : (bits b : ℕ) → b < 64 → 2 ^ (bits - 1) ≤ b → last_of bits b ≡ None
positive_high bits b small high = grind (arith, nat_tests)

negative_fits : (bits b : ℕ) → 64 ≤ b → 127 - b < 2 ^ (bits - 1) → last_of bits b ≡ Some (negsuc (127 - b))
negative_fits bits b large fits = grind (arith, nat_tests)

negative_high : (bits b : ℕ) → 64 ≤ b → 2 ^ (bits - 1) ≤ 127 - b → last_of bits b ≡ None
negative_high bits b large high = grind (arith, nat_tests)

last_taken : (bits b : ℕ) (z : ℤ) → b < 128 → last_of bits b ≡ Some z → SpellsSigned bits (b ∷ []) z
last_taken bits b z small e =
    elim (cases_lt b 64) [
      | inl low ↦ elim (cases_lt b (2 ^ (bits - 1))) [
        | inl fits ↦ subst (λ (x : ℤ). SpellsSigned bits (b ∷ []) x) (some_same (pos b) z (sym (positive_fits bits b low fits) ∙ e)) (last_positive low fits)
        | inr high ↦ absurd (some_none z (sym e ∙ positive_high bits b low high))
      ]
      | inr large ↦ elim (cases_lt (127 - b) (2 ^ (bits - 1))) [
        | inl fits ↦ subst (λ (x : ℤ). SpellsSigned bits (b ∷ []) x) (some_same (negsuc (127 - b)) z (sym (negative_fits bits b large fits) ∙ e)) (last_negative large small fits)
        | inr high ↦ absurd (some_none z (sym e ∙ negative_high bits b large high))
      ]
    ]

signed_taken : (bits : ℕ) (bytes : List ℕ) (z : ℤ) (rest : List ℕ) → signed_at bits bytes ≡ Some (z, rest) → (text : List ℕ) × (bytes ≡ text ++ rest) × SpellsSigned bits text z
signed_taken bits [] z rest e = absurd (some_none (z, rest) (sym e ∙ signed_empty bits))
signed_taken bits (b ∷ bytes) z rest e =
    elim (cases_lt b 128) [
      | inl small ↦
          let s = bind_is (last_of bits b) (ending bytes) (z, rest) (sym (signed_last bits b bytes small) ∙ e) in
          let p = some_pair s.0 z bytes rest s.2 in
          (b ∷ [], ap (λ (r : List ℕ). b ∷ r) p.1, subst (λ (x : ℤ). SpellsSigned bits (b ∷ []) x) p.0 (last_taken bits b s.0 small s.1))
      | inr large ↦ elim (cases_lt 7 bits) [
        | inl left ↦
            let s = bind_is (signed_at (bits - 7) bytes) (lifted (above 128 (b - 128))) (z, rest) (sym (signed_more bits b bytes large left) ∙ e) in
            let p = some_pair (above 128 (b - 128) s.0.0) z s.0.1 rest s.2 in
            let t = signed_taken (bits - 7) bytes s.0.0 s.0.1 s.1 in
            (b ∷ t.0, ap (λ (r : List ℕ). b ∷ r) t.1 ∙ ap (λ (r : List ℕ). b ∷ (t.0 ++ r)) p.1, subst (λ (x : ℤ). SpellsSigned bits (b ∷ t.0) x) p.0 (more_signed left large t.2))
        | inr short ↦ absurd (some_none (z, rest) (sym e ∙ signed_too_long bits b bytes large short))
      ]
    ]

signed_again : {bits : ℕ} {text : List ℕ} {z : ℤ} → SpellsSigned bits text z → (rest : List ℕ) → signed_at bits (text ++ rest) ≡ Some (z, rest)
signed_again (last_positive {b = b} small fits) rest = signed_last _ b rest (omega arith) ∙ bind_some _ _ _ (positive_fits _ _ small fits)
signed_again (last_negative large small fits) rest = signed_last _ _ rest small ∙ bind_some _ _ _ (negative_fits _ _ large fits)
signed_again (more_signed left large s) rest = signed_more _ _ _ large left ∙ bind_some _ _ _ (signed_again s rest)

pub signed_meets : (bits : ℕ) → Meets (SpellsSigned bits) (signed_at bits)
signed_meets bits = record { parses = signed_taken bits; again = λ text z rest s. signed_again s rest }
