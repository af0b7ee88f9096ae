-- Lists of pairs, seen by two views.
use Rattle.std.proofs.Common.{◌≡◌, List, [], ◌∷◌, map, refl, ap}

module _ {A B C D : Type 0} (f : A → C) (g : B → D) where
  pub first-map : (ps : List (A × B)) → map (λ (q : C × D). q.0) (map (λ (p : A × B). (f p.0, g p.1)) ps) ≡ map f (map (λ (p : A × B). p.0) ps)
  first-map [] = refl
  first-map (p ∷ ps) = ap (λ cs. f p.0 ∷ cs) (first-map ps)

  pub second-map : (ps : List (A × B)) → map (λ (q : C × D). q.1) (map (λ (p : A × B). (f p.0, g p.1)) ps) ≡ map g (map (λ (p : A × B). p.1) ps)
  second-map [] = refl
  second-map (p ∷ ps) = ap (λ ds. g p.1 ∷ ds) (second-map ps)
