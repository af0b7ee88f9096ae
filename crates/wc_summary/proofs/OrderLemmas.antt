-- Interfaces in the order in which they are listed.
use Rattle.std.proofs.Common.{◌≡◌, ◌⊎◌, ℕ, ◌<◌, ◌≤◌, Bool, true, false, cond, List, [], ◌∷◌, map, length, get_or, option_map, slice_get, Some, Ordering, String, Global, refl, sym, ◌∙◌, ap, subst, inl, inr, true≢false, arith, nat_lt, ltb-false, ltb-true}
use Rattle.std.specs.Prelude.{◌==◌}
use Rattle.std.specs.Cmp.{IsStrictWeakOrder}
use Rattle.std.specs.List.{All, AllPairs, filter}
use Rattle.std.specs.List.Sorted.{IsPermutation, IsSortedBy, IsStableBy, ties}
use Rattle.std.specs.Ordering.{is_lt, nat_cmp, ordering_then}
use Rattle.std.proofs.lemmas.Bool.{cases_Bool}
use Rattle.std.specs.declared.cmp.Ordering.TheVariants.{Equal, Greater}
use Rattle.std.proofs.lemmas.Cmp.{nat_cmp_total, on_total, then_total, tied_itself}
use Rattle.std.proofs.lemmas.Map.Keys.{ge_from_not_lt}
use Rattle.wc_maps.proofs.PairLemmas.{pairs_head, pairs_none, pairs_tail}
use Rattle.std.proofs.lemmas.Bool.{eqb-true}
use Rattle.std.proofs.lemmas.List.Elements.{All-cons, All-head, All-map, All-tail}
use Rattle.std.proofs.lemmas.List.Kept.{AllPairs-cons, AllPairs-filter}
use Rattle.std.proofs.lemmas.List.MinMax.{ranks_by}
use Rattle.std.proofs.lemmas.List.Sorted.{IsPermutation-map, sorted_far}
use Rattle.std.proofs.lemmas.Option.{slice_get-get_or, slice_get-map}
use Rattle.wc_summary.specs.Summary.{EntryView, IsListedBefore, IsPlacedBefore, IsRankedBefore, entry_view, rank_of}
use Rattle.wc_summary.specs.Entries.{IsSorted, entries_view, interfaces_of}
use Rattle.wc_summary.specs.declared.summary.Entry.{Entry}

-- ---- pairs of a list, and of what passes a test

all_back : {X : Type 0} (P : X → Type 0) (p : X → Bool) (xs : List X) → All P (filter p xs) → All (λ x. p x ≡ true → P x) xs
all_back P p [] h = λ k d within. absurd (omega arith)
all_back {X} P p (x ∷ xs) h = elim (cases_Bool (p x)) [
  | inl on ↦ (let kept : All P (x ∷ filter p xs) = rw on at h in
      All-cons (λ (y : X). p y ≡ true → P y) x xs (λ is. All-head P x (filter p xs) kept) (all_back P p xs (All-tail P x (filter p xs) kept)))
  | inr off ↦ (let others : All P (filter p xs) = rw off at h in
      All-cons (λ (y : X). p y ≡ true → P y) x xs (λ is. absurd (true≢false (sym is ∙ off))) (all_back P p xs others))
]

pairs_back : {X : Type 0} (R : X → X → Type 0) (p : X → Bool) (xs : List X) → AllPairs R (filter p xs) → AllPairs (λ x y. p x ≡ true → p y ≡ true → R x y) xs
pairs_back {X} R p [] h = pairs_none (λ (x y : X). p x ≡ true → p y ≡ true → R x y)
pairs_back {X} R p (x ∷ xs) h = elim (cases_Bool (p x)) [
  | inl on ↦ (let kept : AllPairs R (x ∷ filter p xs) = rw on at h in
      let first : All (λ (y : X). p y ≡ true → R x y) xs = all_back (R x) p xs (pairs_head R x (filter p xs) kept) in
      AllPairs-cons (λ (x y : X). p x ≡ true → p y ≡ true → R x y) x xs (λ k d within here there. first k d within there)
      (pairs_back R p xs (pairs_tail R x (filter p xs) kept)))
  | inr off ↦ (let others : AllPairs R (filter p xs) = rw off at h in
      AllPairs-cons (λ (x y : X). p x ≡ true → p y ≡ true → R x y) x xs (λ k d within here there. absurd (true≢false (sym here ∙ off)))
      (pairs_back R p xs others))
]

pairs_map : {X Y : Type 0} (R : Y → Y → Type 0) (f : X → Y) (xs : List X) → AllPairs (λ x y. R (f x) (f y)) xs → AllPairs R (map f xs)
pairs_map R f [] h = pairs_none R
pairs_map {X} R f (x ∷ xs) h =
    AllPairs-cons R (f x) (map f xs) (All-map (R (f x)) f xs (pairs_head (λ (x y : X). R (f x) (f y)) x xs h)) (pairs_map R f xs (pairs_tail (λ (x y : X). R (f x) (f y)) x xs h))

-- ---- a sorted list, in which what ties stands as it stood

module _ {X : Type 0} (lt : X → X → Bool) (o : IsStrictWeakOrder lt) (R : X → X → Type 0) (old new : List X) where
  tie : (x y : X) → lt x y ≡ false → lt y x ≡ false → ties lt x y ≡ true
  tie x y there back = rw (there, back) refl

  itself : (x : X) → ties lt x x ≡ true
  itself x = elim (cases_Bool (lt x x)) [
    | inl on ↦ absurd (true≢false (sym on ∙ o.one_way x x on))
    | inr off ↦ tie x x off off
  ]

  pub sorted_pairs : IsSortedBy lt new → IsStableBy lt old new → AllPairs R old → AllPairs (λ x y. (lt x y ≡ true) ⊎ ((lt x y ≡ false) × (lt y x ≡ false) × R x y)) new
  sorted_pairs sorted stable pairs = λ i j d before within.
      let x = get_or new i d in
      let y = get_or new j d in
      let back : lt y x ≡ false = sorted_far lt o new sorted i j d (omega arith) within in
      elim (cases_Bool (lt x y)) [
        | inl on ↦ inl on
        | inr off ↦ inr (
          off,
          back,
          (let alike : AllPairs R (filter (ties lt x) new) = subst (AllPairs R) (sym (stable x)) (AllPairs-filter R (ties lt x) old pairs) in
              pairs_back R (ties lt x) new alike i j d before within (itself x) (tie x y off back)),
        )
      ]

-- ---- ranks

abbrev pub rank_at : String Global × Entry → ℕ × ℕ
rank_at e = rank_of (entry_view e).1

abbrev ranks_cmp : ℕ × ℕ → ℕ × ℕ → Ordering
ranks_cmp a b = ordering_then (nat_cmp a.0 b.0) (nat_cmp a.1 b.1)

abbrev ranked : String Global × Entry → String Global × Entry → Bool
ranked a b = is_lt (ranks_cmp (rank_at a) (rank_at b))

ranks_order : IsStrictWeakOrder ranked
ranks_order =
    ranks_by (then_total (on_total (λ (a : ℕ × ℕ). a.0) nat_cmp_total) (on_total (λ (a : ℕ × ℕ). a.1) nat_cmp_total)) rank_at

nat_lower : (x y : ℕ) → is_lt (nat_cmp x y) ≡ true → x < y
nat_lower x y h = elim (cases_Bool (nat_lt x y)) [
  | inl on ↦ ltb-true x y on
  | inr off ↦ absurd (true≢false (sym (rw off at h) ∙ not_less (x == y)))
]
  where
    not_less : (b : Bool) → is_lt (cond b Equal Greater) ≡ false
    not_less true = refl
    not_less false = refl

rank_lower : (a b : ℕ × ℕ) → is_lt (ranks_cmp a b) ≡ true → IsRankedBefore a b
rank_lower a b h = elim (cases_Bool (nat_lt a.0 b.0)) [
  | inl on ↦ inl (ltb-true a.0 b.0 on)
  | inr off ↦ elim (cases_Bool (a.0 == b.0)) [
    | inl same ↦ inr (eqb-true a.0 b.0 same, nat_lower a.1 b.1 (rw (off, same) at h))
    | inr other ↦ absurd (true≢false (sym (rw (off, other) at h)))
  ]
]

-- neither is lower
not_lower : (x y : ℕ) (rest : Ordering) → is_lt (ordering_then (nat_cmp x y) rest) ≡ false → y ≤ x
not_lower x y rest h = elim (cases_Bool (nat_lt x y)) [
  | inl on ↦ absurd (true≢false (rw on at h))
  | inr off ↦ ltb-false x y off
]

rest_tied : (x y : ℕ) (rest : Ordering) → x ≡ y → is_lt (ordering_then (nat_cmp x y) rest) ≡ false → is_lt rest ≡ false
rest_tied x y rest same h = sym (ap (λ o. is_lt (ordering_then o rest)) (ap (nat_cmp x) (sym same) ∙ tied_itself nat_cmp_total x)) ∙ h

rank_tied : (a b : ℕ × ℕ) → is_lt (ranks_cmp a b) ≡ false → is_lt (ranks_cmp b a) ≡ false → a ≡ b
rank_tied a b h g =
    let first : a.0 ≡ b.0 = omega (arith, not_lower a.0 b.0 (nat_cmp a.1 b.1) h, not_lower b.0 a.0 (nat_cmp b.1 a.1) g) in
    let one : is_lt (nat_cmp a.1 b.1) ≡ false = rest_tied a.0 b.0 (nat_cmp a.1 b.1) first h in
    let other : is_lt (nat_cmp b.1 a.1) ≡ false = rest_tied b.0 a.0 (nat_cmp b.1 a.1) (sym first) g in
    let second : a.1 ≡ b.1 = omega (arith, ge_from_not_lt a.1 b.1 one, ge_from_not_lt b.1 a.1 other) in
    ap (λ (x : ℕ). (x, a.1)) first ∙ ap (λ (y : ℕ). (b.0, y)) second

placed : (es : List (String Global × Entry)) → AllPairs (λ a b. IsPlacedBefore (interfaces_of (entries_view es)) (entry_view a).0 (entry_view b).0) es
placed es = λ i j d before within. (i, j, before, at es i d (omega arith), at es j d within)
  where
    at : (es : List (String Global × Entry)) (i : ℕ) (d : String Global × Entry) → i < length es
        → slice_get (interfaces_of (entries_view es)) i ≡ Some (entry_view (get_or es i d)).0
    at es i d within =
        slice_get-map (λ (e : EntryView). e.0) (entries_view es) i ∙ (ap (option_map (λ (e : EntryView). e.0)) (slice_get-map entry_view es i)
        ∙ ap (λ o. option_map (λ (e : EntryView). e.0) (option_map entry_view o)) (slice_get-get_or es i d within))

pub listed_sorted : (old new : List (String Global × Entry)) → IsSortedBy ranked new → IsStableBy ranked old new → IsPermutation old new
    → IsSorted (entries_view old) (entries_view new)
listed_sorted old new sorted stable same = record {
  same = IsPermutation-map entry_view old new same;
  ordered = pairs_map (IsListedBefore (interfaces_of (entries_view old))) entry_view new (λ i j d before within.
      elim (sorted_pairs ranked ranks_order (λ a b. IsPlacedBefore (interfaces_of (entries_view old)) (entry_view a).0 (entry_view b).0) old new sorted stable (placed old) i j d before within) [
        | inl lower ↦ inl (rank_lower (rank_of (entry_view (get_or new i d)).1) (rank_of (entry_view (get_or new j d)).1) lower)
        | inr alike ↦ inr (rank_tied (rank_of (entry_view (get_or new i d)).1) (rank_of (entry_view (get_or new j d)).1) alike.0 alike.1, alike.2)
      ]);
}
