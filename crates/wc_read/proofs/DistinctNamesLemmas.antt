-- Of names in order no two are one exactly where each differs from the next one.
use Rattle.std.proofs.Common.{◌≡◌, ◌≢◌, ◌↔◌, ◌⊎◌, inl, inr, ℕ, zero, suc, ◌+◌, ◌-◌, ◌<◌, ◌≤◌, List, [], ◌∷◌, length, map, get_or, Bool, true, false, IsTrue, refl, sym, ap, subst, ◌∙◌, arith, AllPairs}
use Rattle.std.specs.List.{AllByRecursion, IsDistinct}
use Rattle.std.specs.List.Sorted.{IsPermutation, IsSorted}
use Rattle.std.specs.Cmp.{IsTotalOrder}
use Rattle.std.specs.declared.cmp.Ordering.{Ordering}
use Rattle.std.specs.declared.cmp.Ordering.TheVariants.{Less, Equal, Greater}
use Rattle.std.specs.Ordering.{is_eq, is_lt, nat_cmp, ordering_reverse}
use Rattle.std.specs.Bool.{Decides}
use Rattle.std.proofs.lemmas.Bool.{false≢true}
use Rattle.std.proofs.lemmas.Simd.{map-map}
use Rattle.std.proofs.lemmas.List.Sorted.{IsPermutation-sym, ranks_by, sorted_far}
use Rattle.std.proofs.lemmas.Map.Keys.{IsDistinct-head, IsDistinct-tail, IsDistinct-cons, IsDistinct-IsPermutation, IsDistinct-from_apart, apart_from_distinct}
use Rattle.std.proofs.lemmas.Map.Made.{AllPairs-from_IsDistinct, IsDistinct-from_AllPairs}
use Rattle.std.specs.Cmp.Lexicographic.{slice_cmp}
use Rattle.std.proofs.lemmas.Cmp.{eq_by_cmp_equiv, nat_list_cmp_total, on_total}
use Rattle.std.proofs.lemmas.Map.Text.{is_eq-slice_cmp}
use Rattle.std.specs.Str.{bytes_eq}
use Rattle.std.proofs.lemmas.Slice.Eq.{bytes_eq-Decides}
use Rattle.std.proofs.Common.{Bor}
use Rattle.wc_read.specs.Reading.Exports.{NeighboursDiffer}
use Rattle.wc_read.specs.declared.exports.Export.{Export}

module _ {K X : Type 0} (f : K → X) (eq : X → X → Bool) where
  abbrev on_view : K → K → Bool
  on_view a b = eq (f a) (f b)

  none_viewed : (x : K) (ks : List K) → AllByRecursion (λ y. on_view x y ≡ false) ks → AllByRecursion (λ y. eq (f x) y ≡ false) (map f ks)
  none_viewed x [] h = h
  none_viewed x (k ∷ ks) h = (h.0, none_viewed x ks h.1)

  none_after : (x : K) (ks : List K) → AllByRecursion (λ y. eq (f x) y ≡ false) (map f ks) → AllByRecursion (λ y. on_view x y ≡ false) ks
  none_after x [] h = h
  none_after x (k ∷ ks) h = (h.0, none_after x ks h.1)

  pub distinct_viewed : (ks : List K) → IsDistinct on_view ks → IsDistinct eq (map f ks)
  unfolding IsDistinct
  distinct_viewed [] h = h
  distinct_viewed (k ∷ ks) h = IsDistinct-cons eq (f k) (map f ks) (none_viewed k ks (IsDistinct-head on_view k ks h)) (distinct_viewed ks (IsDistinct-tail on_view k ks h))

  pub distinct_after : (ks : List K) → IsDistinct eq (map f ks) → IsDistinct on_view ks
  unfolding IsDistinct
  distinct_after [] h = h
  distinct_after (k ∷ ks) h = IsDistinct-cons on_view k ks (none_after k ks (IsDistinct-head eq (f k) (map f ks) h)) (distinct_after ks (IsDistinct-tail eq (f k) (map f ks) h))

  pub distinct_names : ((a b : X) → Decides (eq a b) (a ≡ b)) → (ks : List K) → IsDistinct on_view ks → AllPairs (λ x y. x ≢ y) (map f ks)
  distinct_names same ks h = AllPairs-from_IsDistinct same (map f ks) (distinct_viewed ks h)

  pub names_distinct : ((a b : X) → Decides (eq a b) (a ≡ b)) → (ks : List K) → AllPairs (λ x y. x ≢ y) (map f ks) → IsDistinct on_view ks
  names_distinct same ks h = distinct_after ks (IsDistinct-from_AllPairs same (map f ks) h)

-- the order of texts, and whether it says that two are equal
abbrev text_cmp : Bor (List ℕ) → Bor (List ℕ) → Ordering
text_cmp x y = slice_cmp nat_cmp x.now y.now

texts_total : IsTotalOrder text_cmp
texts_total = on_total (λ (b : Bor (List ℕ)). b.now) nat_list_cmp_total

ties : (a b : List ℕ) → Decides (is_eq (slice_cmp nat_cmp a b)) (a ≡ b)
ties a b = rw (is_eq-slice_cmp a b) (bytes_eq-Decides a b)

-- whether two names are one
abbrev one_name : Bor (List ℕ) → Bor (List ℕ) → Bool
one_name x y = is_eq (text_cmp x y)

one_flips : (x y : Bor (List ℕ)) → one_name x y ≡ one_name y x
one_flips x y = (eq_by_cmp_equiv texts_total).symm x y

-- none is before the other
tied : (a b : Bor (List ℕ)) → is_lt (text_cmp a b) ≡ false → is_lt (text_cmp b a) ≡ false → a.now ≡ b.now
tied a b h k = (ties a.now b.now).0 (by (text_cmp a b) refl h (texts_total.antisymm b a) k)
  where
    by : (o : Ordering) → text_cmp a b ≡ o → is_lt o ≡ false → text_cmp b a ≡ ordering_reverse (text_cmp a b) → is_lt (text_cmp b a) ≡ false → is_eq (text_cmp a b) ≡ true
    by Less e h r k = absurd (false≢true (sym h))
    by Equal e h r k = ap is_eq e
    by Greater e h r k = absurd (false≢true (sym k ∙ ap is_lt (r ∙ ap ordering_reverse e)))

module _ (names : List (Bor (List ℕ))) (up : IsSorted text_cmp names) where
  -- what is between two equal names is equal to them
  between : (i j : ℕ) (d : Bor (List ℕ)) → i < j → j < length names → (get_or names i d).now ≡ (get_or names j d).now → (get_or names i d).now ≡ (get_or names (i + 1) d).now
  between i j d below inside e =
      let far : (k l : ℕ) → k ≤ l → l < length names → is_lt (text_cmp (get_or names l d) (get_or names k d)) ≡ false = λ k l a b. sorted_far _ (ranks_by texts_total (λ a. a)) names up k l d a b in
      tied (get_or names i d) (get_or names (i + 1) d)
      (subst (λ (t : List ℕ). is_lt (slice_cmp nat_cmp t (get_or names (i + 1) d).now) ≡ false) (sym e) (far (i + 1) j (omega arith) inside))
      (far i (i + 1) (omega arith) (omega arith))

  neighbours_distinct : NeighboursDiffer names → IsDistinct one_name names
  unfolding NeighboursDiffer
  neighbours_distinct differ = IsDistinct-from_apart one_name names (λ i j d below inside.
      not_so (one_name (get_or names i d) (get_or names j d))
      (λ t. differ i d (omega arith) (between i j d below inside ((ties (get_or names i d).now (get_or names j d).now).0 t))))
    where
      not_so : (b : Bool) → (b ≡ true → ⊥) → b ≡ false
      not_so true h = absurd (h refl)
      not_so false h = refl

  distinct_neighbours : IsDistinct one_name names → NeighboursDiffer names
  unfolding NeighboursDiffer
  distinct_neighbours distinct = λ k d inside e.
      false≢true (sym (apart_from_distinct one_name names k (k + 1) d distinct (omega arith) inside) ∙ (ties (get_or names k d).now (get_or names (k + 1) d).now).1 e)

-- names by their bytes
pub names_differ : (es : List Export) (names : List (Bor (List ℕ))) → IsPermutation (map (λ (e : Export). e.name) es) names → IsSorted text_cmp names → (r : Bool) → IsTrue r ↔ NeighboursDiffer names → IsTrue r ↔ AllPairs (λ x y. x ≢ y) (map (λ (e : Export). e.name.now) es)
names_differ es names moved up r tells =
    let view = λ (b : Bor (List ℕ)). b.now in
    let eq = λ (a b : List ℕ). is_eq (slice_cmp nat_cmp a b) in
    let there : IsTrue r → AllPairs (λ x y. x ≢ y) (map view (map (λ (e : Export). e.name) es)) =
    λ t. distinct_names view eq ties (map (λ (e : Export). e.name) es)
    (IsDistinct-IsPermutation one_name one_flips names (map (λ (e : Export). e.name) es) (IsPermutation-sym (map (λ (e : Export). e.name) es) names moved) (neighbours_distinct names up (tells.0 t))) in
    let back : AllPairs (λ x y. x ≢ y) (map view (map (λ (e : Export). e.name) es)) → IsTrue r =
    λ h. tells.1 (distinct_neighbours names up
    (IsDistinct-IsPermutation one_name one_flips (map (λ (e : Export). e.name) es) names moved (names_distinct view eq ties (map (λ (e : Export). e.name) es) h))) in
    (rw map-map at there, rw map-map at back)

-- the loop over neighbours

any_default : {A : Type 0} (xs : List A) (i : ℕ) (d e : A) → i < length xs → get_or xs i d ≡ get_or xs i e
any_default [] i d e l = absurd (omega (arith, l))
any_default (x ∷ xs) zero d e l = refl
any_default (x ∷ xs) (suc i) d e l = any_default xs i d e (omega (arith, l))

pub texts_same : (a b : List ℕ) → true ≡ bytes_eq a b → a ≡ b
texts_same a b h = (bytes_eq-Decides a b).0 (sym h)

pub texts_differ : (a b : List ℕ) → false ≡ bytes_eq a b → a ≢ b
texts_differ a b h e = false≢true (h ∙ (bytes_eq-Decides a b).1 e)

pub one_again : (names : List (Bor (List ℕ))) (i : ℕ) (d e : Bor (List ℕ)) → 0 < i → i < length names → (get_or names (i - 1) d).now ≡ (get_or names i e).now → NeighboursDiffer names → ⊥
unfolding NeighboursDiffer
one_again names i d e positive inside same differ =
    let back : i - 1 + 1 ≡ i = omega arith in
    let first = ap (λ (b : Bor (List ℕ)). b.now) (any_default names (i - 1) e d (omega arith)) in
    differ (i - 1) e (omega arith) (first ∙ (same ∙ ap (λ (n : ℕ). (get_or names n e).now) (sym back)))

pub next_differs : (names : List (Bor (List ℕ))) (i : ℕ) (d e : Bor (List ℕ)) → 0 < i → i < length names → ((k : ℕ) (b : Bor (List ℕ)) → k + 1 < i → (get_or names k b).now ≢ (get_or names (k + 1) b).now) → (get_or names (i - 1) d).now ≢ (get_or names i e).now
    → (k : ℕ) (b : Bor (List ℕ)) → k + 1 < i + 1 → (get_or names k b).now ≢ (get_or names (k + 1) b).now
next_differs names i d e positive inside before new k b below same = elim (place (k + 1) below) [
  | inl low ↦ before k b low same
  | inr last ↦
      let here : i - 1 ≡ k = omega (arith, last) in
      let first = ap (λ (x : Bor (List ℕ)). x.now) (any_default names (i - 1) d b (omega arith)) ∙ ap (λ (n : ℕ). (get_or names n b).now) here in
      let second = ap (λ (n : ℕ). (get_or names n b).now) last ∙ ap (λ (x : Bor (List ℕ)). x.now) (any_default names i b e inside) in
      new (first ∙ (same ∙ second))
]
  where
    place : (n : ℕ) → n < i + 1 → (n < i) ⊎ (n ≡ i)
    place n h = grind arith
