-- A body after its size, which was put in its place once the body was there.
use Rattle.std.proofs.Common.{◌≡◌, ℕ, ◌+◌, ◌-◌, ◌<◌, List, [], ◌∷◌, ◌++◌, length, set, refl, sym, ◌∙◌, ap, arith}
use Rattle.std.proofs.lemmas.List.{length-append}
use Rattle.wc_write.specs.Text.{number_text}
use Rattle.wc_write.proofs.DigitLemmas.{digits_last}

in_place : (old text : List ℕ) (b size n : ℕ) → n ≡ length old → set ((old ++ b ∷ []) ++ text) n size ≡ old ++ size ∷ text
in_place [] text b size n e = rw e refl
in_place (x ∷ old) text b size n e = rw e (ap (λ (l : List ℕ). x ∷ l) (in_place old text b size (length old) refl))

whole_length : (old text : List ℕ) → length ((old ++ 0 ∷ []) ++ text) ≡ length old + 1 + length text
whole_length old text = length-append (old ++ 0 ∷ []) text ∙ ap (λ n. n + length text) (length-append old (0 ∷ []))

-- what is after the place of the size
size_is : (old text out : List ℕ) (before size : ℕ) → out ≡ (old ++ 0 ∷ []) ++ text → before ≡ length old → size ≡ length out - before - 1 → size ≡ length text
size_is old text out before size e b s = let long = ap length e ∙ whole_length old text in omega (arith, long)

pub short_code : (old text out : List ℕ) (before size : ℕ) → out ≡ (old ++ 0 ∷ []) ++ text → before ≡ length old → size ≡ length out - before - 1 → size < 128
    → set out before size ≡ old ++ (number_text (length text) ++ text)
short_code old text out before size e b s small =
    let is = size_is old text out before size e b s in
    let one = ap number_text (sym is) ∙ digits_last 9 size small in
    ap (λ (z : List ℕ). set z before size) e ∙ (in_place old text 0 size before b ∙ ap (λ (z : List ℕ). old ++ (z ++ text)) (sym one))
