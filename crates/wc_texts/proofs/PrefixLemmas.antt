-- The prefixes of texts.
use Rattle.std.proofs.Common.{◌≡◌, ℕ, List, ◌++◌, Bool, true, false, cond, length, take, drop, Option, Some, None, sym, ap, ◌∙◌, MatchOption, refl}
use Rattle.std.specs.Borrow.{Bor}
use Rattle.std.specs.Option.{option_map}
use Rattle.std.specs.Str.{bytes_eq}
use Rattle.std.specs.Str.Pattern.{FindsTextPrefix, StripsPrefix}
use Rattle.std.proofs.Math.Seq.{take-append_seam}
use Rattle.std.proofs.lemmas.Bool.{cond-true}
use Rattle.std.proofs.lemmas.List.{take-append-drop}
use Rattle.std.proofs.lemmas.Slice.Eq.{bytes_eq-Decides}
use Rattle.wc_texts.specs.Prefixes.{rest_after}

-- what a condition that is never true chooses
cond-not_true : {A : Type 0} (b : Bool) (t e : A) → ¬ (b ≡ true) → cond b t e ≡ e
cond-not_true true t e not = absurd (not refl)
cond-not_true false t e not = refl

-- `strip_prefix` finds what comes after a prefix
pub rest_after-strip_prefix : (prefix text : List ℕ) (r : Option (Bor (List ℕ)))
    → MatchOption r (FindsTextPrefix prefix text None) (λ x. StripsPrefix (FindsTextPrefix prefix) text x.now)
    → option_map (λ (x : Bor (List ℕ)). x.now) r ≡ rest_after prefix text
rest_after-strip_prefix b s None h =
    sym (cond-not_true (bytes_eq (take (length b) s) b) (Some (drop (length b) s)) None
    (λ t. let same : take (length b) s ≡ b = (bytes_eq-Decides (take (length b) s) b).0 t in
    h (drop (length b) s) (sym (ap (λ (z : List ℕ). z ++ drop (length b) s) (sym same) ∙ take-append-drop (length b) s))))
rest_after-strip_prefix b s (Some x) h =
    let k = h.0 in
    let same : take (length b) s ≡ b = ap (take (length b)) h.1.1 ∙ take-append_seam b (drop k s) in
    sym (cond-true (bytes_eq (take (length b) s) b) (Some (drop (length b) s)) None ((bytes_eq-Decides (take (length b) s) b).1 same)
    ∙ ap Some (sym (h.2 ∙ ap (λ (i : ℕ). drop i s) h.1.0)))
