-- The loop that writes a signed number.
use Rattle.std.proofs.Common.{◌≡◌, ℕ, zero, suc, ◌+◌, ◌*◌, ◌/◌, ◌%◌, ◌^◌, ◌<◌, ◌≤◌, List, [], ◌∷◌, ◌++◌, Bool, refl, sym, ◌∙◌, ap, arith, append_assoc, append-nil}
use Rattle.std.proofs.lemmas.Bool.Decides.{nat_tests}
use Rattle.std.proofs.Math.Nat.{div-lt_iff_lt-mul}
use Rattle.wc_write.specs.Text.{signed_digit, signed_digits}

-- a number with no digit before the last
pub signed_none : (negative : Bool) (n : ℕ) → signed_digits negative zero n ≡ signed_digit negative n ∷ []
unfolding signed_digits
signed_none negative n = refl

-- the last digit, and a digit before it
pub signed_last : (negative : Bool) (more n : ℕ) → n < 64 → signed_digits negative more n ≡ signed_digit negative n ∷ []
unfolding signed_digits
signed_last negative zero n small = refl
signed_last negative (suc more) n small = grind (arith, nat_tests)

pub signed_more : (negative : Bool) (more n : ℕ) → 64 ≤ n → signed_digits negative (suc more) n ≡ (128 + signed_digit negative (n % 128)) ∷ signed_digits negative more (n / 128)
unfolding signed_digits
signed_more negative more n large = grind (arith, nat_tests)

-- digits were added to what there was, and those of the rest complete the number's
pub record IsSignedSoFar (old : List ℕ) (negative : Bool) (number : ℕ) (out : List ℕ) (rest : ℕ) : Type 0 where
  pub front : List ℕ
  pub more : ℕ
  pub added : out ≡ old ++ front
  pub gives : front ++ signed_digits negative more rest ≡ signed_digits negative 9 number
  pub below : rest < 64 * 128 ^ more

pub signed_start : (old : List ℕ) (negative : Bool) (number : ℕ) → number < 2 ^ 63 → IsSignedSoFar old negative number old number
signed_start old negative number fits = record { front = []; more = 9; added = sym (append-nil old); gives = refl; below = let h : 2 ^ 63 ≤ 64 * 128 ^ 9 = omega arith in omega arith }

pub signed_step : (old : List ℕ) (negative : Bool) (number : ℕ) (out : List ℕ) (rest : ℕ) → IsSignedSoFar old negative number out rest → 64 ≤ rest → IsSignedSoFar old negative number (out ++ (128 + signed_digit negative (rest % 128)) ∷ []) (rest / 128)
signed_step old negative number out rest s large = by s.more s.gives s.below
  where
    by : (more : ℕ) → s.front ++ signed_digits negative more rest ≡ signed_digits negative 9 number → rest < 64 * 128 ^ more → IsSignedSoFar old negative number (out ++ (128 + signed_digit negative (rest % 128)) ∷ []) (rest / 128)
    by zero gives below = absurd (omega arith)
    by (suc more) gives below = record {
      front = s.front ++ (128 + signed_digit negative (rest % 128)) ∷ [];
      more = more;
      added = ap (λ (l : List ℕ). l ++ (128 + signed_digit negative (rest % 128)) ∷ []) s.added ∙ append_assoc old s.front _;
      gives = append_assoc s.front _ _ ∙ ap (λ (l : List ℕ). s.front ++ l) (sym (signed_more negative more rest large)) ∙ gives;
      below = (div-lt_iff_lt-mul (omega arith)).1 (omega arith);
    }

pub signed_end : (old : List ℕ) (negative : Bool) (number : ℕ) (out : List ℕ) (rest : ℕ) → IsSignedSoFar old negative number out rest → rest < 64 → out ++ signed_digit negative rest ∷ [] ≡ old ++ signed_digits negative 9 number
signed_end old negative number out rest s small =
    ap (λ (l : List ℕ). l ++ signed_digit negative rest ∷ []) s.added ∙ append_assoc old s.front _ ∙ ap (λ (l : List ℕ). old ++ (s.front ++ l)) (sym (signed_last negative s.more rest small)) ∙ ap (λ (l : List ℕ). old ++ l) s.gives
