-- The live types of one element: those that are not known yet, and pass a test, stand for all that pass it.
use Rattle.std.proofs.Common.{◌≡◌, ◌∙◌, ℕ, inl, inr, Bool, true, false, not, eqb, cond, List, [], ◌∷◌, ◌++◌, filter, refl, sym, ap, subst, append-nil, append_assoc}
use Rattle.std.specs.Prelude.{◌||◌, ◌&&◌}
use Rattle.std.specs.List.{Contains, flat_map}
use Rattle.std.proofs.lemmas.Bool.{cases_Bool, eqb-true}
use Rattle.std.proofs.lemmas.List.{append_cancel_left}
use Rattle.std.proofs.lemmas.List.Elements.{filter-append}
use Rattle.std.proofs.lemmas.List.Folds.{list_any-append}
use Rattle.std.proofs.lemmas.Map.Views.{Contains-from_any, any-filter_same}
use Rattle.wc_resolve.specs.Live.{AddsListings, IsComplete, list_union, listing_of, with_live}
use Rattle.wc_resolve.specs.Kinds.{ResolveView}
use Rattle.wc_resolve.proofs.ListUnionLemmas.{list_union_append, list_union_keeps, list_union_there}
use Rattle.wc_resolve.proofs.ListingLemmas.{listing_there}
use Rattle.wc_world.specs.Live.{live_from}
use Rattle.wc_world.specs.Private.ImportedItems.{is_in}

-- a type is not live yet
abbrev pub is_new : List ℕ → ℕ → Bool
is_new live t = not (is_in live t)

-- one more type, after the live ones, and among all
by_two : (a b c : Bool) (live kept all : List ℕ) (x : ℕ) (p : ℕ → Bool) → c ≡ (a || (not a && b)) → filter p all ≡ kept → filter p (all ++ x ∷ []) ≡ kept ++ cond (not a) (x ∷ []) []
    → cond c (live ++ kept) ((live ++ kept) ++ x ∷ []) ≡ live ++ filter p (cond b all (all ++ x ∷ []))
by_two true true c live kept all x p e f g = ap (λ z. cond z (live ++ kept) ((live ++ kept) ++ x ∷ [])) e ∙ ap (λ z. live ++ z) (sym f)
by_two true false c live kept all x p e f g = ap (λ z. cond z (live ++ kept) ((live ++ kept) ++ x ∷ [])) e ∙ ap (λ z. live ++ z) (sym (g ∙ append-nil kept))
by_two false true c live kept all x p e f g = ap (λ z. cond z (live ++ kept) ((live ++ kept) ++ x ∷ [])) e ∙ ap (λ z. live ++ z) (sym f)
by_two false false c live kept all x p e f g = ap (λ z. cond z (live ++ kept) ((live ++ kept) ++ x ∷ [])) e ∙ (append_assoc live kept (x ∷ []) ∙ ap (λ z. live ++ z) (sym g))

-- what is added to live types, and to those of others that are new
union_step : (live all : List ℕ) (x : ℕ) → with_live (live ++ filter (is_new live) all) x ≡ live ++ filter (is_new live) (with_live all x)
union_step live all x =
    let p : ℕ → Bool = is_new live in
    by_two (is_in live x) (is_in all x) (is_in (live ++ filter p all) x) live (filter p all) all x p
    (list_any-append (eqb x) live (filter p all) ∙ ap (λ z. is_in live x || z) (any-filter_same (eqb x) p (p x) (λ k h. ap p (sym (eqb-true x k h))) all))
    refl (filter-append p all (x ∷ []))

union_beside : (live all listing : List ℕ) → list_union (live ++ filter (is_new live) all) listing ≡ live ++ filter (is_new live) (list_union all listing)
union_beside live all [] = refl
union_beside live all (x ∷ listing) = ap (λ z. list_union z listing) (union_step live all x) ∙ union_beside live (with_live all x) listing

-- what was found beside live types is what is new among all
pub beside_found : (r : ResolveView) (live start types roots : List ℕ) → start ≡ [] → IsComplete r.types live → AddsListings r (live ++ start) (live ++ types) roots → types ≡ filter (is_new live) (live_from r roots)
beside_found r live start types roots none complete adds =
    let empty : live ++ start ≡ live ++ [] = ap (λ z. live ++ z) none in
    let found : live ++ types ≡ list_union (live ++ []) (flat_map (listing_of r.types) roots) =
    (subst (λ s. AddsListings r s (live ++ types) roots) empty adds (subst (IsComplete r.types) (sym (append-nil live)) complete)).1 in
    append_cancel_left live types (filter (is_new live) (live_from r roots)) (found ∙ union_beside live [] (flat_map (listing_of r.types) roots))

-- what is known already adds nothing, since of it those that pass are live
module _ (r : ResolveView) (live known : List ℕ) (complete : IsComplete r.types live) (passes : ℕ → Bool) (own : (x : ℕ) → Contains known x → passes x ≡ true → Contains live x) where
  known_adds_none : (all : List ℕ) (x : ℕ) (rest : List ℕ) → is_in known x ≡ true → passes x ≡ true → ((c : ℕ) → Contains live c → Contains all c) → list_union all rest ≡ list_union all (listing_of r.types x ++ rest)
  known_adds_none all x rest there kept has =
      let mine : Contains live x = own x (Contains-from_any eqb-true x known there) kept in
      let same : list_union all (listing_of r.types x) ≡ all = list_union_there all (listing_of r.types x) (λ c h. has c (listing_there r.types live complete x c mine h)) in
      ap (λ z. list_union z rest) (sym same) ∙ sym (list_union_append all (listing_of r.types x) rest)

  skipped : (all xs : List ℕ) → ((c : ℕ) → Contains live c → Contains all c)
      → list_union all (flat_map (listing_of r.types) (filter passes (filter (is_new known) xs))) ≡ list_union all (flat_map (listing_of r.types) (filter passes xs))
  skipped all [] has = refl
  skipped all (x ∷ xs) has =
      let f : ℕ → List ℕ = listing_of r.types in
      let rest : List ℕ = filter passes (filter (is_new known) xs) in
      elim (cases_Bool (is_in known x)) [
        | inl there ↦ elim (cases_Bool (passes x)) [
          | inl kept ↦ rw (there, kept) (skipped all xs has ∙ known_adds_none all x (flat_map f (filter passes xs)) there kept has)
          | inr left ↦ rw (there, left) (skipped all xs has)
        ]
        | inr new ↦ elim (cases_Bool (passes x)) [
          | inl kept ↦
              rw (new, kept)
              (list_union_append all (f x) (flat_map f rest)
              ∙ (skipped (list_union all (f x)) xs (λ c h. list_union_keeps all (f x) c (has c h)) ∙ sym (list_union_append all (f x) (flat_map f (filter passes xs)))))
          | inr left ↦ rw (new, left) (skipped all xs has)
        ]
      ]

-- so the new ones stand for all
pub new_for_all : (r : ResolveView) (passes : ℕ → Bool) (live known new types roots : List ℕ) → ((x : ℕ) → Contains known x → passes x ≡ true → Contains live x) → types ≡ filter (is_new known) (live_from r roots)
    → AddsListings r live new (filter passes types) → AddsListings r live new (filter passes (live_from r roots))
new_for_all r passes live known new types roots own is adds = λ complete.
    let p = adds complete in (
      p.0,
      p.1 ∙ (ap (λ z. list_union live (flat_map (listing_of r.types) (filter passes z))) is ∙ skipped r live known complete passes own live (live_from r roots) (λ c h. h)),
    )
