-- What is looked up under the id of an interface, in a map and in its view.
use Rattle.std.proofs.Common.{◌≡◌, ℕ, Bool, true, false, cond, List, [], ◌∷◌, map, Option, Some, None, is_some, nat_eq, option_map, refl, ◌∙◌, ap}
use Rattle.std.specs.Map.{lookup}

module _ {K X B : Type 0} (same : K → Bool) (number : K → ℕ) (view : X → B) (i : ℕ) (alike : (k : K) → same k ≡ nat_eq i (number k)) where
  abbrev entry : K × X → ℕ × B
  entry e = (number e.0, view e.1)

  first_viewed : (b : Bool) (x : X) (rest : Option X) (others : Option B) → option_map view rest ≡ others
      → option_map view (cond b (Some x) rest) ≡ cond b (Some (view x)) others
  first_viewed true x rest others e = refl
  first_viewed false x rest others e = e

  pub found_viewed : (es : List (K × X)) → option_map view (lookup same es) ≡ lookup (nat_eq i) (map entry es)
  found_viewed [] = refl
  found_viewed (e ∷ es) =
      ap (λ b. option_map view (cond b (Some e.1) (lookup same es))) (alike e.0)
      ∙ first_viewed (nat_eq i (number e.0)) e.1 (lookup same es) (lookup (nat_eq i) (map entry es)) (found_viewed es)

  still_some : (o : Option X) → is_some o ≡ is_some (option_map view o)
  still_some None = refl
  still_some (Some x) = refl

  pub is_found : (es : List (K × X)) → is_some (lookup same es) ≡ is_some (lookup (nat_eq i) (map entry es))
  is_found es = still_some (lookup same es) ∙ ap is_some (found_viewed es)
