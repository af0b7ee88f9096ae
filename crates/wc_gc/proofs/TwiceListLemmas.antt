-- Indices that stay the same: of lists of which all is kept, and of lists in which imports come first.
use Rattle.std.proofs.Common.{◌≡◌, ℕ, zero, suc, ◌+◌, ◌-◌, ◌<◌, ◌≤◌, List, [], ◌∷◌, ◌++◌, length, map, refl, sym, ◌∙◌, ap, Bool, true, false}
use Rattle.std.proofs.Common.{not, cond, Some, arith, inl, inr}
use Rattle.std.specs.Prelude.{filter}
use Rattle.std.specs.List.{AllByRecursion, enumerate_from, list_any, range_with_len, slice_get}
use Rattle.std.specs.Option.{option_map_or}
use Rattle.std.proofs.lemmas.Bool.{cases_lt, false≢true, not-true}
use Rattle.std.proofs.lemmas.List.{length-append}
use Rattle.std.proofs.lemmas.List.Elements.{filter_passes, recursion_from_All}
use Rattle.wc_read.specs.Items.{ItemValue}
use Rattle.wc_write.specs.BuiltValues.{HasImportsFirst, is_defined, is_imported}
use Rattle.wc_gc.specs.Counts.{count_below}
use Rattle.wc_gc.specs.Image.{kept_items}
use Rattle.wc_gc.proofs.BuiltPartLemmas.{all_at}
use Rattle.wc_gc.proofs.CutFoundLemmas.{any_at}
use Rattle.wc_gc.proofs.CutListLemmas.{rank_no, rank_yes}
use Rattle.wc_graph.proofs.ListLemmas.{back_at}
use Rattle.wc_graph.proofs.ListLemmas.{get_some}
use Rattle.wc_gc.proofs.KeptItemLemmas.{kept_from, kept_is}
use Rattle.wc_graph.proofs.ListLemmas.{get_front as front_at}

-- what is kept by a test of items

cond_kept : {A : Type 0} (x : A) (xs ys : List A) → xs ≡ ys → (b c : Bool) → b ≡ c → cond b (x ∷ xs) xs ≡ cond c (x ∷ ys) ys
cond_kept x xs ys e b true h = ap (λ z. cond z (x ∷ xs) xs) h ∙ ap (λ zs. x ∷ zs) e
cond_kept x xs ys e b false h = ap (λ z. cond z (x ∷ xs) xs) h ∙ e

kept_filter : {A : Type 0} (has : ℕ → Bool) (test : A → Bool) (xs : List A) (a : ℕ)
    → ((i : ℕ) → has (a + i) ≡ option_map_or test (slice_get xs i) false) → kept_from has a xs ≡ filter test xs
kept_filter has test [] a each = refl
kept_filter has test (x ∷ xs) a each =
    cond_kept x (kept_from has (a + 1) xs) (filter test xs)
    (kept_filter has test xs (a + 1) (λ i. ap has (let e : a + 1 + i ≡ a + suc i = omega arith in e) ∙ each (suc i))) (has a) (test x)
    (ap has (let e : a ≡ a + 0 = omega arith in e) ∙ each 0)

pub kept_passing : {A : Type 0} (test : A → Bool) (xs : List A) → kept_items (λ n. option_map_or test (slice_get xs n) false) (length xs) xs
    ≡ filter test xs
kept_passing test xs =
    kept_is (λ n. option_map_or test (slice_get xs n) false) xs
    ∙ kept_filter (λ n. option_map_or test (slice_get xs n) false) test xs 0
    (λ i. ap (λ n. option_map_or test (slice_get xs n) false) (let e : 0 + i ≡ i = omega arith in e))

-- where all items pass

kept_every : {A : Type 0} (has : ℕ → Bool) (xs : List A) (a : ℕ) → ((i : ℕ) → i < length xs → has (a + i) ≡ true) → kept_from has a xs ≡ xs
kept_every has [] a each = refl
kept_every has (x ∷ xs) a each =
    ap (λ b. cond b (x ∷ kept_from has (a + 1) xs) (kept_from has (a + 1) xs)) (ap has (let e : a ≡ a + 0 = omega arith in e) ∙ each 0 (omega arith))
    ∙ ap (λ ys. x ∷ ys) (kept_every has xs (a + 1)
    (λ i l. ap has (let e : a + 1 + i ≡ a + suc i = omega arith in e) ∙ each (suc i) (omega (arith, l))))

pub kept_within : {A : Type 0} (has : ℕ → Bool) (xs : List A) → ((i : ℕ) → i < length xs → has i ≡ true) → kept_items has (length xs) xs ≡ xs
kept_within has xs each = kept_is has xs ∙ kept_every has xs 0 (λ i l. ap has (let e : 0 + i ≡ i = omega arith in e) ∙ each i l)

pub count_within : (has : ℕ → Bool) (size n : ℕ) → ((i : ℕ) → i < size → has i ≡ true) → n ≤ size → count_below has n ≡ n
count_within has size zero each l = refl
count_within has size (suc n) each l = rank_yes has n (each n (omega (arith, l))) ∙ ap suc (count_within has size n each (omega (arith, l)))

-- where none passes

pub none_found : (test : ℕ → Bool) (size n : ℕ) → filter test (range_with_len 0 size) ≡ [] → n < size → test n ≡ false
none_found test size n none l = by (test n) refl
  where
    by : (b : Bool) → test n ≡ b → b ≡ false
    by true e = absurd (false≢true (sym (ap (list_any (λ k. true)) none) ∙ any_at test (λ k. true) 0 size n (omega arith) (omega (arith, l)) e refl))
    by false e = refl

pub filter_none : (test : ℕ → Bool) (ns : List ℕ) → ((n : ℕ) → test n ≡ false) → filter test ns ≡ []
filter_none test [] h = refl
filter_none test (n ∷ ns) h = ap (λ b. cond b (n ∷ filter test ns) (filter test ns)) (h n) ∙ filter_none test ns h

-- each rank is that of an item

rank_step : (has : ℕ → Bool) (size j : ℕ) → (j < count_below has size → (n : ℕ) × (n < size) × (has n ≡ true) × (count_below has n ≡ j))
    → j < count_below has (suc size) → (b : Bool) → has size ≡ b
    → (n : ℕ) × (n < suc size) × (has n ≡ true) × (count_below has n ≡ j)
rank_step has size j rest l true h =
    let more = rank_yes has size h in
    elim (cases_lt j (count_below has size)) [
      | inl less ↦ (let r = rest less in (r.0, (let b = r.1 in omega (arith, b)), r.2, r.3))
      | inr past ↦ (size, omega arith, h, (omega (arith, past, l, more)))
    ]
rank_step has size j rest l false h =
    let more = rank_no has size h in
    let r = rest (omega (arith, l, more)) in
    (r.0, (let b = r.1 in omega (arith, b)), r.2, r.3)

pub of_rank : (has : ℕ → Bool) (size j : ℕ) → j < count_below has size → (n : ℕ) × (n < size) × (has n ≡ true) × (count_below has n ≡ j)
of_rank has zero j l = absurd (omega (arith, l))
of_rank has (suc size) j l = rank_step has size j (of_rank has size j) l (has size) refl

-- two groups, of which the first has the lower numbers

module _ (p q : ℕ → Bool) (k size : ℕ) (le : k ≤ size) (low : (n : ℕ) → n < k → (p n ≡ true) × (q n ≡ false))
    (high : (n : ℕ) → k ≤ n → n < size → (p n ≡ false) × (q n ≡ true)) where
  low_first : (n : ℕ) → n ≤ k → count_below p n ≡ n
  low_first n l = count_within p k n (λ i h. (low i h).0) l

  low_second : (n : ℕ) → n ≤ k → count_below q n ≡ 0
  low_second zero l = refl
  low_second (suc n) l = rank_no q n (low n (omega (arith, l))).1 ∙ low_second n (omega (arith, l))

  high_first : (j : ℕ) → k + j ≤ size → count_below p (k + j) ≡ k
  high_first zero l = ap (count_below p) (let e : k + 0 ≡ k = omega arith in e) ∙ low_first k (omega arith)
  high_first (suc j) l =
      ap (count_below p) (let e : k + suc j ≡ suc (k + j) = omega arith in e)
      ∙ (rank_no p (k + j) (high (k + j) (omega arith) (omega (arith, l))).0 ∙ high_first j (omega (arith, l)))

  high_second : (j : ℕ) → k + j ≤ size → count_below q (k + j) ≡ j
  high_second zero l = ap (count_below q) (let e : k + 0 ≡ k = omega arith in e) ∙ low_second k (omega arith)
  high_second (suc j) l =
      ap (count_below q) (let e : k + suc j ≡ suc (k + j) = omega arith in e)
      ∙ (rank_yes q (k + j) (high (k + j) (omega arith) (omega (arith, l))).1 ∙ ap suc (high_second j (omega (arith, l))))

  group_rank : (n : ℕ) → n < size → cond (p n) (count_below p n) (count_below p size + 0 + count_below q n) ≡ n
  group_rank n l = elim (cases_lt n k) [
    | inl less ↦ ap (λ b. cond b (count_below p n) (count_below p size + 0 + count_below q n)) (low n less).0 ∙ low_first n (omega (arith, less))
    | inr past ↦
        let split : k + (n - k) ≡ n = omega (arith, past) in
        let whole : k + (size - k) ≡ size = omega (arith, le) in
        let second = high_second (n - k) (omega (arith, split, l)) in
        let first = high_first (size - k) (omega (arith, whole)) in
        let one = ap (count_below q) split in
        let all = ap (count_below p) whole in
        ap (λ b. cond b (count_below p n) (count_below p size + 0 + count_below q n)) (high n past l).0 ∙ omega (arith, second, first, one, all, past)
  ]

abbrev pub imports_at : {T C : Type 0} → List (ItemValue T C) → ℕ → Bool
imports_at {T} {C} xs n = option_map_or (λ (x : ItemValue T C). is_imported x) (slice_get xs n) false

abbrev pub defined_at : {T C : Type 0} → List (ItemValue T C) → ℕ → Bool
defined_at {T} {C} xs n = option_map_or (λ (x : ItemValue T C). is_defined x) (slice_get xs n) false

-- the index of an item, counted among imports, or after them among the others
abbrev pub group_of : {T C : Type 0} → List (ItemValue T C) → ℕ → ℕ
group_of xs n = cond (imports_at xs n) (count_below (imports_at xs) n) (count_below (imports_at xs) (length xs) + 0 + count_below (defined_at xs) n)

module _ {T C : Type 0} (xs : List (ItemValue T C)) (first : HasImportsFirst xs) where
  abbrev front : List (ItemValue T C)
  front = filter is_imported xs

  abbrev back : List (ItemValue T C)
  back = filter is_defined xs

  front_is : (n : ℕ) (x : ItemValue T C) → slice_get front n ≡ Some x → is_imported x ≡ true
  front_is n x at =
      all_at (λ (y : ItemValue T C). is_imported y ≡ true) front n x
      (recursion_from_All (λ (y : ItemValue T C). is_imported y ≡ true) front (filter_passes is_imported xs)) at

  back_is : (n : ℕ) (x : ItemValue T C) → slice_get back n ≡ Some x → is_defined x ≡ true
  back_is n x at =
      all_at (λ (y : ItemValue T C). is_defined y ≡ true) back n x
      (recursion_from_All (λ (y : ItemValue T C). is_defined y ≡ true) back (filter_passes is_defined xs)) at

  size_is : length xs ≡ length front + length back
  size_is = ap length first ∙ length-append front back

  low_at : (n : ℕ) → n < length front → (imports_at xs n ≡ true) × (defined_at xs n ≡ false)
  low_at n l =
      let x = get_some front n l in
      let at : slice_get xs n ≡ Some x.0 = ap (λ ys. slice_get ys n) first ∙ front_at front back n x.0 x.1 in
      let is = front_is n x.0 x.1 in (
        ap (λ o. option_map_or (λ (y : ItemValue T C). is_imported y) o false) at
            ∙ is,
        ap (λ o. option_map_or (λ (y : ItemValue T C). is_defined y) o false) at ∙ ap not is,
      )

  high_at : (n : ℕ) → length front ≤ n → n < length xs → (imports_at xs n ≡ false) × (defined_at xs n ≡ true)
  high_at n past l =
      let size = size_is in
      let split : n ≡ length front + (n - length front) = omega (arith, past) in
      let x = get_some back (n - length front) (omega (arith, past, l, size)) in
      let at : slice_get xs n ≡ Some x.0 = ap (λ ys. slice_get ys n) first
      ∙ (ap (slice_get (front ++ back)) split ∙ (back_at front back (n - length front) ∙ x.1)) in
      let is = back_is (n - length front) x.0 x.1 in (
        ap (λ o. option_map_or (λ (y : ItemValue T C). is_imported y) o false) at
            ∙ not-true (is_imported x.0) is,
        ap (λ o. option_map_or (λ (y : ItemValue T C). is_defined y) o false) at ∙ is,
      )

  pub group_same : (n : ℕ) → n < length xs → group_of xs n ≡ n
  group_same n l = group_rank (imports_at xs) (defined_at xs) (length front) (length xs) (let e = size_is in omega (arith, e)) low_at high_at n l

-- editing that changes nothing

pub enumerated_same : {A : Type 0} (f : ℕ × A → A) (xs : List A) (a : ℕ) → AllByRecursion (λ x. (n : ℕ) → f (n, x) ≡ x) xs
    → map f (enumerate_from a xs) ≡ xs
enumerated_same f [] a h = refl
enumerated_same f (x ∷ xs) a h = ap (λ y. y ∷ map f (enumerate_from (a + 1) xs)) (h.0 a) ∙ ap (λ ys. x ∷ ys) (enumerated_same f xs (a + 1) h.1)
