-- What is made of things one after another.
use Rattle.std.proofs.Common.{◌≡◌, List, [], ◌∷◌, ◌++◌, sym, ◌∙◌, ap, append_assoc, append-nil}
use Rattle.std.specs.List.{flat_map}

module _ {X B : Type 0} (f : X → List B) (all text : List B) where
  pub made_more : (more new : List B) (left rest : List X) (x : X) → left ≡ x ∷ rest → new ≡ text ++ more → more ≡ f x → text ++ flat_map f left ≡ all
      → new ++ flat_map f rest ≡ all
  made_more more new left rest x is put made h =
      ap (λ z. z ++ flat_map f rest) (put ∙ ap (λ z. text ++ z) made)
      ∙ (append_assoc text (f x) (flat_map f rest) ∙ (ap (λ z. text ++ flat_map f z) (sym is) ∙ h))

  pub made_all : (left : List X) → left ≡ [] → text ++ flat_map f left ≡ all → text ≡ all
  made_all left none h = sym (append-nil text) ∙ (ap (λ z. text ++ flat_map f z) (sym none) ∙ h)
