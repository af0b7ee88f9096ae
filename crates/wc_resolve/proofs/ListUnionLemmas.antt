-- Lists in which later repeats are left out, and elements of lists of lists.
use Rattle.std.proofs.Common.{◌≡◌, ℕ, ◌⊎◌, false, eqb, List, [], ◌∷◌, ◌++◌, refl, sym, ap, ◌∙◌, subst, inl, inr, append-nil, append_assoc}
use Rattle.std.specs.List.{flat_map, Contains, list_any}
use Rattle.std.proofs.lemmas.Bool.{cases_Bool, eqb-true}
use Rattle.std.proofs.lemmas.Cmp.{nat_eq_equiv}
use Rattle.std.proofs.lemmas.List.Elements.{Contains-append_left, Contains-append_right, Contains-append_cases, Contains-push, Contains-push_cases}
use Rattle.std.proofs.lemmas.List.Sums.{fold-append}
use Rattle.std.proofs.lemmas.Map.Views.{list_any-from_Contains, Contains-from_any}
use Rattle.wc_resolve.specs.Live.{with_live, list_union, Keeps}
use Rattle.wc_maps.proofs.ListLemmas.{contains_none, contains_head, contains_tail, contains_cons}

-- what is in a list of lists

pub contains_joined : {X : Type 0} (f : X → List ℕ) (xs : List X) (x : X) (c : ℕ) → Contains xs x → Contains (f x) c → Contains (flat_map f xs) c
contains_joined f [] x c h k = absurd (contains_none x h)
contains_joined f (y ∷ xs) x c h k =
    elim (contains_cons y xs x h) [
      | inl same ↦ Contains-append_left (f y) (flat_map f xs) c (subst (λ z. Contains (f z) c) (sym same) k)
      | inr rest ↦ Contains-append_right (f y) (flat_map f xs) c (contains_joined f xs x c rest k)
    ]

pub joined_from : {X : Type 0} (f : X → List ℕ) (xs : List X) (c : ℕ) → Contains (flat_map f xs) c → (x : X) × Contains xs x × Contains (f x) c
joined_from f [] c h = absurd (contains_none c h)
joined_from f (y ∷ xs) c h =
    elim (Contains-append_cases (f y) (flat_map f xs) c h) [
      | inl front ↦ (y, contains_head xs y, front)
      | inr rest ↦ (let p = joined_from f xs c rest in (p.0, contains_tail y xs p.0 p.1, p.2))
    ]

-- lists that agree on the elements join to the same
pub joined_same : {X Y : Type 0} (f g : X → List Y) (xs : List X) → ((x : X) → Contains xs x → f x ≡ g x) → flat_map f xs ≡ flat_map g xs
joined_same f g [] h = refl
joined_same f g (x ∷ xs) h =
    let here : f x ≡ g x = h x (contains_head xs x) in
    let rest : flat_map f xs ≡ flat_map g xs = joined_same f g xs (λ y k. h y (contains_tail x xs y k)) in
    cc (here, rest)

-- one more

pub with_there : (live : List ℕ) (x : ℕ) → Contains live x → with_live live x ≡ live
with_there live x h = rw (list_any-from_Contains nat_eq_equiv x live h) refl

pub with_new : (live : List ℕ) (x : ℕ) → list_any (eqb x) live ≡ false → with_live live x ≡ live ++ x ∷ []
with_new live x h = rw h refl

abbrev pub WithCases : List ℕ → ℕ → Type 0
WithCases live x = (Contains live x × (with_live live x ≡ live)) ⊎ (with_live live x ≡ live ++ x ∷ [])

pub with_cases : (live : List ℕ) (x : ℕ) → WithCases live x
with_cases live x =
    elim (cases_Bool (list_any (eqb x) live)) [
      | inl there ↦ (let k : Contains live x = Contains-from_any eqb-true x live there in inl (k, with_there live x k))
      | inr new ↦ inr (with_new live x new)
    ]

pub with_has : (live : List ℕ) (x : ℕ) → Contains (with_live live x) x
with_has live x =
    elim (with_cases live x) [
      | inl there ↦ subst (λ (z : List ℕ). Contains z x) (sym there.1) there.0
      | inr new ↦ subst (λ (z : List ℕ). Contains z x) (sym new) (Contains-push live x)
    ]

pub with_keeps : (live : List ℕ) (x c : ℕ) → Contains live c → Contains (with_live live x) c
with_keeps live x c h =
    elim (with_cases live x) [
      | inl there ↦ subst (λ (z : List ℕ). Contains z c) (sym there.1) h
      | inr new ↦ subst (λ (z : List ℕ). Contains z c) (sym new) (Contains-append_left live (x ∷ []) c h)
    ]

pub with_from : (live : List ℕ) (x c : ℕ) → Contains (with_live live x) c → Contains live c ⊎ (x ≡ c)
with_from live x c h =
    elim (with_cases live x) [
      | inl there ↦ inl (subst (λ (z : List ℕ). Contains z c) there.1 h)
      | inr new ↦ Contains-push_cases live x c (subst (λ (z : List ℕ). Contains z c) new h)
    ]

pub keeps_same : (live : List ℕ) → Keeps live live
keeps_same live = ([], sym (append-nil live))

pub keeps_more : (old mid new : List ℕ) → Keeps old mid → Keeps mid new → Keeps old new
keeps_more old mid new a b = (a.0 ++ b.0, b.1 ∙ ap (λ z. z ++ b.0) a.1 ∙ append_assoc old a.0 b.0)

pub with_extends : (live : List ℕ) (x : ℕ) → Keeps live (with_live live x)
with_extends live x =
    elim (with_cases live x) [
      | inl there ↦ ([], there.1 ∙ sym (append-nil live))
      | inr new ↦ (x ∷ [], new)
    ]

-- a listing after the others

pub list_union_append : (live a b : List ℕ) → list_union live (a ++ b) ≡ list_union (list_union live a) b
list_union_append live a b = fold-append with_live live a b

pub list_union_there : (live listing : List ℕ) → ((c : ℕ) → Contains listing c → Contains live c) → list_union live listing ≡ live
list_union_there live [] h = refl
list_union_there live (x ∷ listing) h =
    let here : with_live live x ≡ live = with_there live x (h x (contains_head listing x)) in
    let rest : list_union live listing ≡ live = list_union_there live listing (λ c k. h c (contains_tail x listing c k)) in
    ap (λ z. list_union z listing) here ∙ rest

pub list_union_keeps : (live listing : List ℕ) (c : ℕ) → Contains live c → Contains (list_union live listing) c
list_union_keeps live [] c h = h
list_union_keeps live (x ∷ listing) c h = list_union_keeps (with_live live x) listing c (with_keeps live x c h)

pub list_union_has : (live listing : List ℕ) (c : ℕ) → Contains listing c → Contains (list_union live listing) c
list_union_has live [] c h = absurd (contains_none c h)
list_union_has live (x ∷ listing) c h =
    elim (contains_cons x listing c h) [
      | inl same ↦ list_union_keeps (with_live live x) listing c (subst (Contains (with_live live x)) same (with_has live x))
      | inr rest ↦ list_union_has (with_live live x) listing c rest
    ]

pub list_union_extends : (live listing : List ℕ) → Keeps live (list_union live listing)
list_union_extends live [] = keeps_same live
list_union_extends live (x ∷ listing) =
    keeps_more live (with_live live x) (list_union (with_live live x) listing) (with_extends live x) (list_union_extends (with_live live x) listing)
