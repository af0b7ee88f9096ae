-- Live types that are added beside known ones.
use Rattle.std.proofs.Common.{◌≡◌, ◌↔◌, Bool, true, false, IsTrue, ℕ, List, [], ◌∷◌, ◌++◌, sym, ◌∙◌, inl, inr, append_assoc}
use Rattle.std.specs.List.{Contains}
use Rattle.std.proofs.lemmas.List.Elements.{Contains-append_left, Contains-append_right, Contains-append_cases}
use Rattle.wc_resolve.specs.declared.walk.TypeStep.{TypeStep}
use Rattle.wc_resolve.specs.Views.{TypeView}
use Rattle.wc_resolve.specs.Live.{Keeps, list_union, listing_from, with_live}
use Rattle.wc_resolve.proofs.ListUnionLemmas.{with_there, with_cases}
use Rattle.wc_maps.proofs.ListLemmas.{contains_none}
use Rattle.wc_resolve.proofs.WalkLemmas.{IsLiveWalk}

-- the walk over known types and the live ones after them
pub record IsWalkBeside (types : List TypeView) (known old roots live : List ℕ) (steps : List TypeStep) : Type 0 where
  pub walk : IsLiveWalk types (known ++ old) (list_union (known ++ old) (listing_from types roots)) (known ++ live) steps
  pub kept : Keeps old live

-- no list has a type
pub nothing_has : (x : ℕ) → IsTrue false ↔ Contains [] x
nothing_has x = ((λ t. (let bad : ⊥ = cc t in absurd bad)), (λ h. absurd (contains_none x h)))

-- a type is among known types, or among the live ones after them
pub known_has : (a : Bool) (known live : List ℕ) (x : ℕ) → a ≡ true → IsTrue a ↔ Contains known x → IsTrue a ↔ Contains (known ++ live) x
known_has a known live x there is = ((λ t. Contains-append_left known live x (is.0 t)), (λ h. there))

pub live_has : (a b : Bool) (known live : List ℕ) (x : ℕ) → a ≡ false → IsTrue a ↔ Contains known x → IsTrue b ↔ Contains live x → IsTrue b ↔ Contains (known ++ live) x
live_has a b known live x other first is = (
  (λ t. Contains-append_right known live x (is.0 t)),
  (λ h. elim (Contains-append_cases known live x h) [
    | inl front ↦ (let e = sym (first.1 front) ∙ other in let bad : ⊥ = cc e in absurd bad)
    | inr back ↦ is.1 back
  ]),
)

-- a type that is there is not added
pub there_left : (known live : List ℕ) (x : ℕ) → Contains (known ++ live) x → known ++ live ≡ with_live (known ++ live) x
there_left known live x h = sym (with_there (known ++ live) x h)

-- one that is not there is added to the live ones
pub new_left : (known live : List ℕ) (x : ℕ) → ¬ Contains (known ++ live) x → known ++ (live ++ x ∷ []) ≡ with_live (known ++ live) x
new_left known live x none = elim (with_cases (known ++ live) x) [
  | inl there ↦ absurd (none there.0)
  | inr new ↦ sym (append_assoc known live (x ∷ [])) ∙ sym new
]
