-- The loop that writes a number.
use Rattle.std.proofs.Common.{◌≡◌, ℕ, zero, suc, ◌+◌, ◌/◌, ◌%◌, ◌^◌, ◌<◌, ◌≤◌, List, [], ◌∷◌, ◌++◌, refl, sym, ◌∙◌, ap, arith, append_assoc, append-nil}
use Rattle.std.proofs.lemmas.Bool.Decides.{nat_tests}
use Rattle.std.proofs.Math.Nat.{div-lt_iff_lt-mul}
use Rattle.wc_write.specs.Text.{digits, number_text}

-- a number with no digit before the last
pub digits_none : (n : ℕ) → digits zero n ≡ n ∷ []
unfolding digits
digits_none n = refl

-- the last digit, and a digit before it
pub digits_last : (more n : ℕ) → n < 128 → digits more n ≡ n ∷ []
unfolding digits
digits_last zero n small = refl
digits_last (suc more) n small = grind (arith, nat_tests)

pub digits_more : (more n : ℕ) → 128 ≤ n → digits (suc more) n ≡ (128 + n % 128) ∷ digits more (n / 128)
unfolding digits
digits_more more n large = grind (arith, nat_tests)

-- digits were added to what there was, and those of the rest complete the number's
pub record IsSoFar (old : List ℕ) (number : ℕ) (out : List ℕ) (rest : ℕ) : Type 0 where
  pub front : List ℕ
  pub more : ℕ
  pub added : out ≡ old ++ front
  pub gives : front ++ digits more rest ≡ number_text number
  pub below : rest < 128 ^ suc more

pub number_start : (old : List ℕ) (number : ℕ) → number < 2 ^ 64 → IsSoFar old number old number
number_start old number fits = record { front = []; more = 9; added = sym (append-nil old); gives = refl; below = let h : 2 ^ 64 ≤ 128 ^ 10 = omega arith in omega arith }

pub number_step : (old : List ℕ) (number : ℕ) (out : List ℕ) (rest : ℕ) → IsSoFar old number out rest → 128 ≤ rest → IsSoFar old number (out ++ (128 + rest % 128) ∷ []) (rest / 128)
number_step old number out rest s large = by s.more s.gives s.below
  where
    by : (more : ℕ) → s.front ++ digits more rest ≡ number_text number → rest < 128 ^ suc more → IsSoFar old number (out ++ (128 + rest % 128) ∷ []) (rest / 128)
    by zero gives below = absurd (omega arith)
    by (suc more) gives below = record {
      front = s.front ++ (128 + rest % 128) ∷ [];
      more = more;
      added = ap (λ (l : List ℕ). l ++ (128 + rest % 128) ∷ []) s.added ∙ append_assoc old s.front _;
      gives = append_assoc s.front _ _ ∙ ap (λ (l : List ℕ). s.front ++ l) (sym (digits_more more rest large)) ∙ gives;
      below = (div-lt_iff_lt-mul (omega arith)).1 (omega arith);
    }

pub number_end : (old : List ℕ) (number : ℕ) (out : List ℕ) (rest : ℕ) → IsSoFar old number out rest → rest < 128 → out ++ rest ∷ [] ≡ old ++ number_text number
number_end old number out rest s small =
    ap (λ (l : List ℕ). l ++ rest ∷ []) s.added ∙ append_assoc old s.front _ ∙ ap (λ (l : List ℕ). old ++ (s.front ++ l)) (sym (digits_last s.more rest small)) ∙ ap (λ (l : List ℕ). old ++ l) s.gives
