-- Whether slot 1 is in use, adapter by adapter.
use Rattle.std.proofs.Common.{◌≡◌, ◌↔◌, ℕ, List, [], ◌∷◌, Bool, true, false, refl, sym, ap, ◌∙◌, inl, inr}
use Rattle.std.specs.Prelude.{◌||◌, IsTrue}
use Rattle.std.specs.List.{Contains, flat_map, list_any}
use Rattle.std.proofs.lemmas.List.Folds.{list_any-append}
use Rattle.std.proofs.lemmas.Bool.{or_left, or_right}
use Rattle.wc_names.specs.Views.{ImportView}
use Rattle.wc_maps.proofs.ListLemmas.{contains_cons, contains_head, contains_none, contains_tail}
use Rattle.wc_validate.specs.Imports.Map.{imports_in}
use Rattle.wc_validate.specs.Validate.{ModuleRecord}
use Rattle.wc_world.specs.Slots.{all_imports, uses_slot_1}
use Rattle.wc_world.specs.Views.{NamedWorldAdapter}

abbrev pub any_import : List (List ℕ × (List ℕ × ImportView)) → Bool
any_import xs = list_any (λ (x : List ℕ × (List ℕ × ImportView)). uses_slot_1 x.1.1) xs

abbrev pub any_adapter : List NamedWorldAdapter → Bool
any_adapter adapters = list_any (λ (a : NamedWorldAdapter). any_import (imports_in a.1.info.imports)) adapters

pub any_flat : {X Y : Type 0} (test : Y → Bool) (f : X → List Y) (xs : List X) → list_any test (flat_map f xs) ≡ list_any (λ x. list_any test (f x)) xs
any_flat test f [] = refl
any_flat test f (x ∷ xs) = list_any-append test (f x) (flat_map f xs) ∙ ap (λ b. list_any test (f x) || b) (any_flat test f xs)

found_here : {X : Type 0} (test : X → Bool) (x : X) (xs : List X) (b : Bool) → test x ≡ b
    → (list_any test xs ≡ true → (y : X) × Contains xs y × IsTrue (test y)) → (b || list_any test xs) ≡ true → (y : X) × Contains (x ∷ xs) y × IsTrue (test y)
found_here test x xs true is rest h = (x, contains_head xs x, is)
found_here test x xs false is rest h = let later = rest h in (later.0, contains_tail x xs later.0 later.1, later.2)

pub any_from : {X : Type 0} (test : X → Bool) (xs : List X) → list_any test xs ≡ true → (x : X) × Contains xs x × IsTrue (test x)
any_from test [] h = absurd (let bad : ⊥ = cc h in bad)
any_from test (x ∷ xs) h = found_here test x xs (test x) refl (any_from test xs) h

pub any_to : {X : Type 0} (test : X → Bool) (xs : List X) (x : X) → Contains xs x → IsTrue (test x) → list_any test xs ≡ true
any_to test [] x c h = absurd (contains_none x c)
any_to test (y ∷ xs) x c h =
    elim (contains_cons y xs x c) [
      | inl same ↦ or_left (test y) (list_any test xs) (ap test same ∙ h)
      | inr later ↦ or_right (test y) (list_any test xs) (any_to test xs x later h)
    ]

-- of all imports
pub slot_used : (main : ModuleRecord) (adapters : List NamedWorldAdapter) (b : Bool) → b ≡ (any_import (imports_in main.imports) || any_adapter adapters)
    → IsTrue b ↔ ((x : List ℕ × (List ℕ × ImportView)) × Contains (all_imports main adapters) x × IsTrue (uses_slot_1 x.1.1))
slot_used main adapters b is =
    let test : List ℕ × (List ℕ × ImportView) → Bool = λ x. uses_slot_1 x.1.1 in
    let same : b ≡ list_any test (all_imports main adapters) =
    is ∙ (ap (λ c. any_import (imports_in main.imports) || c) (sym (any_flat test (λ (a : NamedWorldAdapter). imports_in a.1.info.imports) adapters))
    ∙ sym (list_any-append test (imports_in main.imports) (flat_map (λ (a : NamedWorldAdapter). imports_in a.1.info.imports) adapters))) in
    (λ h. any_from test (all_imports main adapters) (sym same ∙ h), λ h. same ∙ any_to test (all_imports main adapters) h.0 h.1 h.2)
