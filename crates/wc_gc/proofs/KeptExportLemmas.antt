-- Exports that are kept are distinct, where all are.
use Rattle.std.proofs.Common.{◌≡◌, ◌≢◌, ℕ, ◌-◌, ◌<◌, List, [], ◌∷◌, length, map, get_or, set, sym, ◌∙◌, ap, subst, Option, Some, None, ◌⊎◌, inl, inr, arith}
use Rattle.std.specs.Prelude.{AllPairs, fold, position}
use Rattle.std.specs.List.{swap_remove}
use Rattle.std.specs.Option.{option_map_or}
use Rattle.std.specs.Str.{bytes_eq}
use Rattle.std.proofs.lemmas.Bool.Decides.{eqb_tells}
use Rattle.std.proofs.lemmas.List.{get_or-map, get_or-take, get_or-set_same, get_or-set_other, length-take-le, length-set, length-map, get_or_default}
use Rattle.wc_read.specs.Exports.{ExportValue}
use Rattle.wc_gc.specs.Exports.{kept_exports, dropped_names, without}

module _ {A : Type 0} (R : A → A → Type 0) (flip : (x y : A) → R x y → R y x) where
  module _ (xs : List A) (i : ℕ) (d : A) (pairs : AllPairs R xs) where
    abbrev Last : ℕ
    Last = length xs - 1

    abbrev after : List A
    after = set xs i (get_or xs Last d)

    pub at_other : (k : ℕ) (e : A) → k < Last → k ≢ i → get_or (swap_remove xs i d) k e ≡ get_or xs k e
    at_other k e h other = get_or-take Last after k e h ∙ get_or-set_other xs i k (get_or xs Last d) e other

    pub at_hole : (k : ℕ) (e : A) → k < Last → k ≡ i → get_or (swap_remove xs i d) k e ≡ get_or xs Last e
    at_hole k e h same =
        get_or-take Last after k e h
        ∙ (ap (λ j. get_or after j e) same ∙ (get_or-set_same xs i (get_or xs Last d) e (let s : i ≡ k = sym same in omega arith)
        ∙ get_or_default xs Last d e (omega arith)))

    pub bounded_after : length (swap_remove xs i d) ≡ Last
    bounded_after = length-take-le Last after (let l = length-set xs i (get_or xs Last d) in omega (arith, l))

    two_of : (k l : ℕ) (e : A) → k < l → l < Last → (k ≡ i) ⊎ (k ≢ i) → (l ≡ i) ⊎ (l ≢ i)
        → R (get_or (swap_remove xs i d) k e) (get_or (swap_remove xs i d) l e)
    two_of k l e h below (inl a) (inl b) = absurd (omega arith)
    two_of k l e h below (inl a) (inr b) =
        subst (λ z. R z (get_or (swap_remove xs i d) l e)) (sym (at_hole k e (omega arith) a))
        (subst (R (get_or xs Last e)) (sym (at_other l e below b)) (flip (get_or xs l e) (get_or xs Last e) (pairs l Last e below (omega arith))))
    two_of k l e h below (inr a) (inl b) =
        subst (λ z. R z (get_or (swap_remove xs i d) l e)) (sym (at_other k e (omega arith) a))
        (subst (R (get_or xs k e)) (sym (at_hole l e below b)) (pairs k Last e (omega arith) (omega arith)))
    two_of k l e h below (inr a) (inr b) =
        subst (λ z. R z (get_or (swap_remove xs i d) l e)) (sym (at_other k e (omega arith) a))
        (subst (R (get_or xs k e)) (sym (at_other l e below b)) (pairs k l e h (omega arith)))

    pairs_removed : AllPairs R (swap_remove xs i d)
    pairs_removed k l e h below =
        let bounded = bounded_after in
        two_of k l e h (omega arith) (elim (eqb_tells k i) [ inl a ↦ inl a.1 | inr b ↦ inr b.1 ]) (elim (eqb_tells l i) [ inl a ↦ inl a.1 | inr b ↦ inr b.1 ])

  pairs_or : (xs : List A) (d : A) → AllPairs R xs → (o : Option ℕ) → AllPairs R (option_map_or (λ i. swap_remove xs i d) o xs)
  pairs_or xs d pairs None = pairs
  pairs_or xs d pairs (Some i) = pairs_removed xs i d pairs

module _ (R : ExportValue → ExportValue → Type 0) (flip : (x y : ExportValue) → R x y → R y x) where
  pub pairs_without : (es : List ExportValue) (name : List ℕ) → AllPairs R es → AllPairs R (without es name)
  pairs_without [] name pairs = pairs
  pairs_without (e ∷ es) name pairs = pairs_or R flip (e ∷ es) e pairs (position (λ (x : ExportValue). bytes_eq name x.name) (e ∷ es))

  pairs_fold : (es : List ExportValue) (names : List (List ℕ)) → AllPairs R es → AllPairs R (fold without es names)
  pairs_fold es [] pairs = pairs
  pairs_fold es (n ∷ names) pairs = pairs_fold (without es n) names (pairs_without es n pairs)

  -- what holds of two exports in any order holds of two that are kept
  pub pairs_kept : (required : List (List ℕ)) (es : List ExportValue) → AllPairs R es → AllPairs R (kept_exports required es)
  pairs_kept required es pairs = pairs_fold es (dropped_names required es) pairs

-- names that are distinct, and things of distinct names

pub pairs_named : {A : Type 0} (name : A → List ℕ) (xs : List A) → AllPairs (λ x y. x ≢ y) (map name xs) → AllPairs (λ x y. name x ≢ name y) xs
pairs_named name xs pairs i j d h below e =
    let l = length-map xs name in
    pairs i j (name d) h (omega (arith, l, below)) (get_or-map name xs i d (name d) (omega (arith, h, below))
    ∙ (e ∙ sym (get_or-map name xs j d (name d) below)))

pub names_of_pairs : {A : Type 0} (name : A → List ℕ) (xs : List A) → AllPairs (λ x y. name x ≢ name y) xs → AllPairs (λ x y. x ≢ y) (map name xs)
names_of_pairs name [] pairs i j d h below e = absurd (omega arith)
names_of_pairs name (x ∷ xs) pairs i j d h below e =
    let l = length-map (x ∷ xs) name in
    let read : (n : ℕ) → n < length (map name (x ∷ xs)) → get_or (map name (x ∷ xs)) n d ≡ name (get_or (x ∷ xs) n x) =
    λ n b. get_or-map name (x ∷ xs) n x d (omega (arith, l, b)) in
    pairs i j x h (omega (arith, l, below)) (sym (read i (omega (arith, h, below))) ∙ (e ∙ read j below))
