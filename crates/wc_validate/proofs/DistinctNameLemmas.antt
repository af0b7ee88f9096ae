-- Pairs of a list at two positions, and lists in which no name occurs twice.
use Rattle.std.proofs.Common.{◌≡◌, ◌≢◌, ◌⊎◌, ℕ, zero, suc, ◌<◌, ◌++◌, List, [], ◌∷◌, map, All, AllPairs, Contains, Option, Some, None, slice_get, refl, sym, ap, subst, ◌∙◌, inl, inr, arith}
use Rattle.std.specs.List.{cons_option, filter_map}
use Rattle.std.specs.Map.{lookup}
use Rattle.std.specs.Str.{bytes_eq}
use Rattle.std.proofs.lemmas.Bool.{cases_lt}
use Rattle.std.proofs.lemmas.List.Elements.{All-cons, All-contains, All-head, All-nil, All-tail, Contains-append_right}
use Rattle.std.proofs.lemmas.List.Kept.{AllPairs-cons}
use Rattle.wc_maps.proofs.PairLemmas.{pairs_head, pairs_none, pairs_tail}
use Rattle.wc_maps.proofs.ListLemmas.{contains_cons, contains_head, contains_none}
use Rattle.wc_resolve.proofs.WellFormedLemmas.{all_get}
use Rattle.wc_validate.proofs.ContainedLemmas.{all_by, found_there, kept_from, looked_up, none_some, some_same}

module _ {X : Type 0} (R : X → X → Type 0) where
  pair_at : (xs : List X) (p q : ℕ) (x y : X) → AllPairs R xs → p < q → slice_get xs p ≡ Some x → slice_get xs q ≡ Some y → R x y
  pair_at [] p q x y h less at_p at_q = absurd (none_some x at_p)
  pair_at (z ∷ xs) p zero x y h less at_p at_q = absurd (omega (arith, less))
  pair_at (z ∷ xs) zero (suc q) x y h less at_p at_q = subst (λ a. R a y) (some_same at_p) (all_get (R z) xs q y (pairs_head R z xs h) at_q)
  pair_at (z ∷ xs) (suc p) (suc q) x y h less at_p at_q = pair_at xs p q x y (pairs_tail R z xs h) (omega (arith, less)) at_p at_q

  -- at two positions, in one order or the other
  pub pair_either : (xs : List X) (p q : ℕ) (x y : X) → AllPairs R xs → (p ≡ q → ⊥) → slice_get xs p ≡ Some x → slice_get xs q ≡ Some y → R x y ⊎ R y x
  pair_either xs p q x y h differ at_p at_q = elim (cases_lt p q) [
    | inl less ↦ inl (pair_at xs p q x y h less at_p at_q)
    | inr least ↦ elim (cases_lt q p) [ inl less ↦ inr (pair_at xs q p y x h less at_q at_p) | inr most ↦ absurd (differ (omega (arith, least, most))) ]
  ]

  -- of those before one
  pub pairs_before : (xs : List X) (y : X) (ys : List X) → AllPairs R (xs ++ y ∷ ys) → All (λ x. R x y) xs
  pairs_before [] y ys h = All-nil (λ x. R x y)
  pairs_before (x ∷ xs) y ys h =
      All-cons (λ x. R x y) x xs (All-contains (R x) (xs ++ y ∷ ys) y (pairs_head R x (xs ++ y ∷ ys) h)
      (Contains-append_right xs (y ∷ ys) y (contains_head ys y)))
      (pairs_before xs y ys (pairs_tail R x (xs ++ y ∷ ys) h))

abbrev pub HaveDistinctNames : {X : Type 0} → (X → List ℕ) → List X → Type 0
HaveDistinctNames name xs = AllPairs (λ a b. name a ≢ name b) xs

module _ {X : Type 0} (name : X → List ℕ) where
  abbrev HasOther : X → X → Type 0
  HasOther a b = name a ≢ name b

  one_at : (x : X) (xs : List X) (a b : X) → All (HasOther x) xs → (x ≡ a) ⊎ Contains xs a → (x ≡ b) ⊎ Contains xs b → name a ≡ name b
      → (Contains xs a → Contains xs b → a ≡ b) → a ≡ b
  one_at x xs a b first (inl p) (inl q) e rest = sym p ∙ q
  one_at x xs a b first (inl p) (inr q) e rest = absurd (All-contains (HasOther x) xs b first q (ap name p ∙ e))
  one_at x xs a b first (inr p) (inl q) e rest = absurd (All-contains (HasOther x) xs a first p (ap name q ∙ sym e))
  one_at x xs a b first (inr p) (inr q) e rest = rest p q

  -- an element has its name alone
  pub one_named : (xs : List X) (a b : X) → HaveDistinctNames name xs → Contains xs a → Contains xs b → name a ≡ name b → a ≡ b
  one_named [] a b distinct h k e = absurd (contains_none a h)
  one_named (x ∷ xs) a b distinct h k e =
      one_at x xs a b (pairs_head HasOther x xs distinct) (contains_cons x xs a h) (contains_cons x xs b k) e
      (λ p q. one_named xs a b (pairs_tail HasOther x xs distinct) p q e)

  -- the names themselves
  pub distinct_unmapped : (xs : List X) → AllPairs (λ a b. a ≢ b) (map name xs) → HaveDistinctNames name xs
  distinct_unmapped [] h = pairs_none HasOther
  distinct_unmapped (x ∷ xs) h =
      AllPairs-cons HasOther x xs (unmapped (λ n. name x ≢ n) xs (pairs_head (λ a b. a ≢ b) (name x) (map name xs) h))
      (distinct_unmapped xs (pairs_tail (λ a b. a ≢ b) (name x) (map name xs) h)) where
        unmapped : (P : List ℕ → Type 0) (ys : List X) → All P (map name ys) → All (λ y. P (name y)) ys
        unmapped P [] k = All-nil (λ y. P (name y))
        unmapped P (y ∷ ys) k = All-cons (λ y. P (name y)) y ys (All-head P (name y) (map name ys) k) (unmapped P ys (All-tail P (name y) (map name ys) k))

-- what is kept of a list has its names
module _ {X Y : Type 0} (f : X → Option Y) (name : X → List ℕ) (own : Y → List ℕ) (keeps : (x : X) (y : Y) → f x ≡ Some y → own y ≡ name x) where
  all_kept : (P : List ℕ → Type 0) (xs : List X) → All (λ x. P (name x)) xs → All (λ y. P (own y)) (filter_map f xs)
  all_kept P xs h =
      all_by (λ y. P (own y)) (filter_map f xs) (λ y there. let from = kept_from f xs y there in
      subst P (sym (keeps from.0 y from.2)) (All-contains (λ x. P (name x)) xs from.0 h from.1))

  kept_at : (x : X) (o : Option Y) (ys : List Y) → f x ≡ o → All (λ y. name x ≢ own y) ys → HaveDistinctNames own ys → HaveDistinctNames own (cons_option o ys)
  kept_at x None ys is first rest = rest
  kept_at x (Some y) ys is first rest = AllPairs-cons (λ a b. own a ≢ own b) y ys (subst (λ n. All (λ z. n ≢ own z) ys) (sym (keeps x y is)) first) rest

  pub distinct_kept : (xs : List X) → HaveDistinctNames name xs → HaveDistinctNames own (filter_map f xs)
  distinct_kept [] h = pairs_none (λ a b. own a ≢ own b)
  distinct_kept (x ∷ xs) h =
      kept_at x (f x) (filter_map f xs) refl (all_kept (λ n. name x ≢ n) xs (pairs_head (λ a b. name a ≢ name b) x xs h))
      (distinct_kept xs (pairs_tail (λ a b. name a ≢ name b) x xs h))

module _ {V : Type 0} (q : List (List ℕ × V)) (distinct : HaveDistinctNames (λ x. x.0) q) where
  pub lookup_one : (name : List ℕ) (v : V) → Contains q (name, v) → lookup (bytes_eq name) q ≡ Some v
  lookup_one name v there =
      let looked = looked_up name q v there in
      looked.1 ∙ ap (λ (x : List ℕ × V). Some x.1) (one_named (λ x. x.0) q (name, looked.0) (name, v) distinct (found_there name q looked.0 looked.1)
      there refl)

  -- two lists of the same entries
  module _ (p : List (List ℕ × V)) (back : (x : List ℕ × V) → Contains q x → Contains p x) (forth : (x : List ℕ × V) → Contains p x → Contains q x) where
    same_lookup : (name : List ℕ) (o r : Option V) → lookup (bytes_eq name) p ≡ o → lookup (bytes_eq name) q ≡ r → r ≡ o
    same_lookup name None None is_o is_r = refl
    same_lookup name None (Some w) is_o is_r =
        absurd (let looked = looked_up name p w (back (name, w) (found_there name q w is_r)) in none_some looked.0 (sym is_o ∙ looked.1))
    same_lookup name (Some v) r is_o is_r = sym is_r ∙ lookup_one name v (forth (name, v) (found_there name p v is_o))

    pub same_lookups : (name : List ℕ) → lookup (bytes_eq name) q ≡ lookup (bytes_eq name) p
    same_lookups name = same_lookup name (lookup (bytes_eq name) p) (lookup (bytes_eq name) q) refl refl
