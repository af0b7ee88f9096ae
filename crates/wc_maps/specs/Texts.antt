-- Lists of texts, as bytes.
use Rattle.std.specs.Prelude.{◌≡◌, ◌≢◌, ℕ, Bool, ◌∷◌, ◌++◌, List, map, All, Contains}
use Rattle.std.specs.Borrow.{Bor}
use Rattle.std.specs.List.{AllPairs, list_any}
use Rattle.std.specs.Str.{bytes_eq}

abbrev pub text_pair : Bor (List ℕ) × Bor (List ℕ) → List ℕ × List ℕ
text_pair p = (p.0.now, p.1.now)

abbrev pub text_of : Bor (List ℕ) → List ℕ
text_of t = t.now

-- the first and the second of each pair
abbrev pub first_parts : List (List ℕ × List ℕ) → List (List ℕ)
first_parts pairs = map (λ (p : List ℕ × List ℕ). p.0) pairs

abbrev pub second_parts : List (List ℕ × List ℕ) → List (List ℕ)
second_parts pairs = map (λ (p : List ℕ × List ℕ). p.1) pairs

abbrev pub is_in : List (List ℕ) → List ℕ → Bool
is_in texts text = list_any (λ t. bytes_eq t text) texts

-- a list of keys has the texts of another, however often each is there
abbrev pub HasTexts : List (List ℕ) → List (List ℕ) → Type 0
HasTexts texts keys = (t : List ℕ) → is_in keys t ≡ is_in texts t

-- no text is there twice
abbrev pub AreDistinct : List (List ℕ) → Type 0
AreDistinct texts = AllPairs (λ a b. a ≢ b) texts

-- the first text that is there before
pub record IsFirstRepeated (texts : List (List ℕ)) (text : List ℕ) : Type 0 where
  pub front : List (List ℕ)
  pub back : List (List ℕ)
  pub cut : texts ≡ front ++ text ∷ back
  pub distinct : AreDistinct front
  pub repeated : Contains front text

-- the first text that is none of some others
pub record IsFirstMissing (texts others : List (List ℕ)) (text : List ℕ) : Type 0 where
  pub front : List (List ℕ)
  pub back : List (List ℕ)
  pub cut : texts ≡ front ++ text ∷ back
  pub there : All (Contains others) front
  pub missing : ¬ Contains others text
