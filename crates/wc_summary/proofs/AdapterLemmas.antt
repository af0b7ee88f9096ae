-- What is counted by positions is what an adapter imports of interfaces.
use Rattle.std.proofs.Common.{◌≡◌, ◌≢◌, ℕ, zero, suc, ◌+◌, ◌-◌, ◌<◌, Bool, true, false, List, [], ◌∷◌, map, length, get_or, refl, sym, ◌∙◌, ap, inl, inr, arith, Option, Some, None}
use Rattle.std.specs.Prelude.{◌↔◌, AllPairs, Contains, cond, count_by, filter, nat_eq, not}
use Rattle.std.specs.List.{slice_get, sum_by}
use Rattle.std.specs.Option.{option_eq, option_map}
use Rattle.std.specs.Str.{bytes_eq}
use Rattle.std.proofs.lemmas.Bool.{cases_lt}
use Rattle.std.proofs.lemmas.Bool.Decides.{eqb_tells}
use Rattle.std.proofs.lemmas.List.Elements.{filter_passes}
use Rattle.std.proofs.lemmas.List.Kept.{AllPairs-cons, AllPairs-filter}
use Rattle.std.proofs.lemmas.List.Sums.{sum_by-cons}
use Rattle.std.proofs.lemmas.Option.{get_or_from_slice_get, slice_get-get_or, slice_get-map, slice_get_within}
use Rattle.std.proofs.lemmas.Slice.Eq.{bytes_eq-Decides}
use Rattle.wc_texts.specs.Names.{first_occurrences}
use Rattle.wc_graph.proofs.ListLemmas.{in_filter}
use Rattle.wc_graph.proofs.ListLemmas.{from_filter}
use Rattle.wc_graph.specs.Positions.{IsAt}
use Rattle.wc_summary.specs.Leads.{Tags, count_tag, is_tag}
use Rattle.wc_summary.specs.Private.Tags.{AreTagsAt, count_place, tag_at}
use Rattle.wc_summary.proofs.LeadLemmas.{mapped_at}

-- ---- interfaces, each once

there_more : (x : List ℕ) (xs : List (List ℕ)) (y : List ℕ) → Contains xs y → Contains (x ∷ xs) y
there_more x xs y (k, h, e) = (suc k, (omega (arith, h)), e)

pub found_at : (names : List (List ℕ)) (q : List ℕ) (u : ℕ) → slice_get (first_occurrences names) u ≡ Some q → Contains names q
found_at names q u e = from names (u, slice_get_within (first_occurrences names) u q e, get_or_from_slice_get (first_occurrences names) u q q e)
  where
    from : (ns : List (List ℕ)) → Contains (first_occurrences ns) q → Contains ns q
    from [] c = c
    from (n ∷ ns) (zero, h, e) = (zero, omega arith, e)
    from (n ∷ ns) (suc k, h, e) = there_more n ns q (from ns (from_filter (λ other. not (bytes_eq n other)) (first_occurrences ns) q (k, omega (arith, h), e)))

passed : (n : List ℕ) (firsts : List (List ℕ)) (q : List ℕ) → (u : ℕ) × (slice_get firsts u ≡ Some q) → (b : Bool) → bytes_eq n q ≡ b
    → (u : ℕ) × (slice_get (n ∷ filter (λ other. not (bytes_eq n other)) firsts) u ≡ Some q)
passed n firsts q r true e = (zero, ap Some ((bytes_eq-Decides n q).0 e))
passed n firsts q r false e =
    let p : List ℕ → Bool = (λ other. not (bytes_eq n other)) in
    let c = in_filter p firsts q (r.0, slice_get_within firsts r.0 q r.1, get_or_from_slice_get firsts r.0 q q r.1) (ap not e) in
    (suc c.0, slice_get-get_or (filter p firsts) c.0 q c.1 ∙ ap Some c.2)

-- a name is at a place among those without repeats
pub placed_there : (names : List (List ℕ)) (q : List ℕ) → Contains names q → (u : ℕ) × (slice_get (first_occurrences names) u ≡ Some q)
placed_there [] q c = absurd (let l = c.1 in omega (arith, l))
placed_there (n ∷ ns) q (zero, h, e) = (zero, ap Some e)
placed_there (n ∷ ns) q (suc k, h, e) = passed n (first_occurrences ns) q (placed_there ns q (k, omega (arith, h), e)) (bytes_eq n q) refl

other_name : (n y : List ℕ) → not (bytes_eq n y) ≡ true → n ≢ y
other_name n y h e = let bad : false ≡ true = sym (ap not ((bytes_eq-Decides n y).1 e)) ∙ h in cc bad

pub distinct_found : (names : List (List ℕ)) → AllPairs (λ x y. x ≢ y) (first_occurrences names)
distinct_found [] = λ i j d h k. absurd (omega (arith, k))
distinct_found (n ∷ ns) =
    let p : List ℕ → Bool = (λ other. not (bytes_eq n other)) in
    AllPairs-cons (λ x y. x ≢ y) n (filter p (first_occurrences ns))
    (λ i d h. other_name n (get_or (filter p (first_occurrences ns)) i d) (filter_passes p (first_occurrences ns) i d h))
    (AllPairs-filter (λ x y. x ≢ y) p (first_occurrences ns) (distinct_found ns))

-- ---- sums and counts of lists that are mapped

pub sum_of_mapped : {A B : Type 0} (h : B → ℕ) (g : A → B) (xs : List A) → sum_by h (map g xs) ≡ sum_by (λ (x : A). h (g x)) xs
sum_of_mapped h g [] = refl
sum_of_mapped {A = A} h g (x ∷ xs) =
    sum_by-cons h (g x) (map g xs) ∙ (ap (λ (n : ℕ). h (g x) + n) (sum_of_mapped h g xs) ∙ sym (sum_by-cons (λ (y : A). h (g y)) x xs))

sum_alike : {A : Type 0} (h k : A → ℕ) (xs : List A) → ((x : A) → Contains xs x → h x ≡ k x) → sum_by h xs ≡ sum_by k xs
sum_alike h k [] same = refl
sum_alike {A = A} h k (x ∷ xs) same =
    sum_by-cons h x xs ∙ (ap (λ (n : ℕ). n + sum_by h xs) (same x (zero, omega arith, refl))
    ∙ (ap (λ (n : ℕ). k x + n) (sum_alike h k xs (λ y (i, l, e). same y (suc i, omega (arith, l), e))) ∙ sym (sum_by-cons k x xs)))

-- ---- an interface that is at a place alone
module _ (interfaces : List (List ℕ)) (distinct : AllPairs (λ x y. x ≢ y) interfaces) (u : ℕ) (q : List ℕ) (here : slice_get interfaces u ≡ Some q) where
  one_place : (v : ℕ) → slice_get interfaces v ≡ Some q → v ≡ u
  one_place v there = elim (eqb_tells v u) [
    | inl same ↦ same.1
    | inr other ↦ elim (cases_lt v u) [
      | inl less ↦ absurd (distinct v u q less (slice_get_within interfaces u q here)
          (get_or_from_slice_get interfaces v q q there ∙ sym (get_or_from_slice_get interfaces u q q here)))
      | inr more ↦ absurd (distinct u v q (let n = other.1 in omega (arith, more, n)) (slice_get_within interfaces v q there)
          (get_or_from_slice_get interfaces u q q here ∙ sym (get_or_from_slice_get interfaces v q q there)))
    ]
  ]

  same_test : (v : ℕ) (w : List ℕ) → slice_get interfaces v ≡ Some w → nat_eq u v ≡ bytes_eq q w
  same_test v w there = elim (eqb_tells u v) [
    | inl same ↦
        let one : Some q ≡ Some w = sym here ∙ (ap (slice_get interfaces) same.1 ∙ there) in
        let is : q ≡ w = cc one in same.0 ∙ sym ((bytes_eq-Decides q w).1 is)
    | inr other ↦ other.0 ∙ sym (not_same (bytes_eq q w) refl other.1)
  ]
    where
      not_same : (b : Bool) → bytes_eq q w ≡ b → u ≢ v → bytes_eq q w ≡ false
      not_same false e n = e
      not_same true e n = absurd (n (sym (one_place v (there ∙ ap Some (sym ((bytes_eq-Decides q w).0 e))))))

  place_tells : (p : Option ℕ) → ((v : ℕ) → p ≡ Some v → v < length interfaces) → option_eq nat_eq (Some u) p ≡ is_tag q (tag_at interfaces p)
  place_tells None below = refl
  place_tells (Some v) below =
      let there : slice_get interfaces v ≡ Some (get_or interfaces v []) = slice_get-get_or interfaces v [] (below v refl) in
      same_test v (get_or interfaces v []) there ∙ ap (is_tag q) (sym there)

  module _ (tags : Tags) (places : List (Option ℕ)) (at : AreTagsAt interfaces tags places) where
    -- its imports are as many as its places
    pub count_is : count_place places u ≡ count_tag q tags
    count_is =
        sum_alike (λ (p : Option ℕ). cond (option_eq nat_eq (Some u) p) 1 0) (λ (p : Option ℕ). cond (is_tag q (tag_at interfaces p)) 1 0) places
        (λ p c. ap (λ (b : Bool). cond b 1 0) (place_tells p (λ v e. at.below c.0 v (slice_get-get_or places c.0 p c.1 ∙ ap Some (c.2 ∙ e)))))
        ∙ (sym (sum_of_mapped (λ (t : Option (List ℕ)). cond (is_tag q t) 1 0) (tag_at interfaces) places) ∙ ap (count_by (is_tag q)) at.are)

    -- and are where it is
    pub tagged_is : (k : ℕ) → IsAt places k u ↔ (slice_get tags k ≡ Some (Some q))
    tagged_is k = (
      λ e. ap (λ (z : Tags). slice_get z k) (sym at.are) ∙ (slice_get-map (tag_at interfaces) places k ∙ (ap (option_map (tag_at interfaces)) e ∙ ap Some here)),
      λ e. let m = mapped_at (tag_at interfaces) places k (Some q) (ap (λ (z : Tags). slice_get z k) at.are ∙ e) in place_by k m.0 m.1 m.2,
    )
      where
        place_by : (k : ℕ) (p : Option ℕ) → slice_get places k ≡ Some p → tag_at interfaces p ≡ Some q → IsAt places k u
        place_by k None e f = absurd (let bad : None ≡ Some q = f in cc bad)
        place_by k (Some v) e f = e ∙ ap (λ (n : ℕ). Some (Some n)) (one_place v f)
