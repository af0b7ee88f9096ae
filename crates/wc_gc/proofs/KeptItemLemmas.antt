-- Kept items, one after another: their ranks, and imports before other items.
use Rattle.std.proofs.Common.{◌≡◌, ℕ, zero, suc, ◌+◌, ◌<◌, ◌≤◌, List, [], ◌∷◌, ◌++◌, length, map, refl, sym, ◌∙◌, ap, subst, Bool, true, false, cond, not, Option, Some, append-nil, arith}
use Rattle.std.specs.Prelude.{filter}
use Rattle.std.specs.List.{range_with_len, filter_map, slice_get, cons_option, count_by, AllByRecursion}
use Rattle.std.proofs.lemmas.List.{map-append}
use Rattle.std.proofs.lemmas.List.Elements.{filter-append, filter_passes, recursion_from_All, All-weaker}
use Rattle.std.proofs.lemmas.List.Sums.{sum_by-cons}
use Rattle.std.proofs.lemmas.Option.{slice_get_within}
use Rattle.std.proofs.lemmas.Bool.{not-true}
use Rattle.wc_read.specs.Items.{ItemValue}
use Rattle.wc_write.specs.BuiltValues.{is_imported, is_defined, HasImportsFirst}
use Rattle.wc_gc.specs.Counts.{count_below}
use Rattle.wc_gc.specs.Image.{kept_items}
use Rattle.wc_graph.proofs.ListLemmas.{get_some}

-- the items that are kept, the first of them at an index
abbrev pub kept_from : {A : Type 0} → (ℕ → Bool) → ℕ → List A → List A
kept_from has a [] = []
kept_from has a (x ∷ xs) = cond (has a) (x ∷ kept_from has (a + 1) xs) (kept_from has (a + 1) xs)

module _ {A : Type 0} (read : ℕ → Option A) (has : ℕ → Bool) where
  kept_one : (a : ℕ) (x : A) (xs : List A) (ns : List ℕ) → read a ≡ Some x → filter_map read (filter has ns) ≡ kept_from has (a + 1) xs → (b : Bool)
      → filter_map read (cond b (a ∷ filter has ns) (filter has ns)) ≡ cond b (x ∷ kept_from has (a + 1) xs) (kept_from has (a + 1) xs)
  kept_one a x xs ns at rest true = ap (λ o. cons_option o (filter_map read (filter has ns))) at ∙ ap (λ ys. x ∷ ys) rest
  kept_one a x xs ns at rest false = rest

  kept_on : (xs : List A) (a : ℕ) → ((i : ℕ) → read (a + i) ≡ slice_get xs i) → filter_map read (filter has (range_with_len a (length xs))) ≡ kept_from has a xs
  kept_on [] a each = refl
  kept_on (x ∷ xs) a each =
      kept_one a x xs (range_with_len (a + 1) (length xs)) (ap read (let e : a ≡ a + 0 = omega arith in e) ∙ each 0)
      (kept_on xs (a + 1) (λ i. ap read (let e : a + 1 + i ≡ a + suc i = omega arith in e) ∙ each (suc i))) (has a)

module _ {A : Type 0} (has : ℕ → Bool) where
  pub kept_is : (xs : List A) → kept_items has (length xs) xs ≡ kept_from has 0 xs
  kept_is xs = kept_on (slice_get xs) has xs 0 (λ i. ap (slice_get xs) (let e : 0 + i ≡ i = omega arith in e))

  more_kept : (a : ℕ) (x : A) (ys zs rest : List A) → rest ≡ ys ++ zs → (b : Bool) → cond b (x ∷ rest) rest ≡ cond b (x ∷ ys) ys ++ zs
  more_kept a x ys zs rest e true = ap (λ z. x ∷ z) e
  more_kept a x ys zs rest e false = e

  kept-append : (xs ys : List A) (a : ℕ) → kept_from has a (xs ++ ys) ≡ kept_from has a xs ++ kept_from has (a + length xs) ys
  kept-append [] ys a = ap (λ k. kept_from has k ys) (let e : a ≡ a + 0 = omega arith in e)
  kept-append (x ∷ xs) ys a =
      more_kept a x (kept_from has (a + 1) xs) (kept_from has (a + suc (length xs)) ys) (kept_from has (a + 1) (xs ++ ys))
      (kept-append xs ys (a + 1) ∙ ap (λ k. kept_from has (a + 1) xs ++ kept_from has k ys)
      (let e : a + 1 + length xs ≡ a + suc (length xs) = omega arith in e)) (has a)

  all_more : (P : A → Type 0) (x : A) (ys : List A) → P x → AllByRecursion P ys → (b : Bool) → AllByRecursion P (cond b (x ∷ ys) ys)
  all_more P x ys h all true = (h, all)
  all_more P x ys h all false = all

  pub kept_all : (P : A → Type 0) (xs : List A) (a : ℕ) → AllByRecursion P xs → AllByRecursion P (kept_from has a xs)
  kept_all P [] a all = tt
  kept_all P (x ∷ xs) a all = all_more P x (kept_from has (a + 1) xs) all.0 (kept_all P xs (a + 1) all.1) (has a)

  bounded_more : (x : A) (ys : List A) (n : ℕ) → length ys ≤ n → (b : Bool) → length (cond b (x ∷ ys) ys) ≤ suc n
  bounded_more x ys n h true = omega arith
  bounded_more x ys n h false = omega arith

  bounded_from : (xs : List A) (a : ℕ) → length (kept_from has a xs) ≤ length xs
  bounded_from [] a = omega arith
  bounded_from (x ∷ xs) a = bounded_more x (kept_from has (a + 1) xs) (length xs) (bounded_from xs (a + 1)) (has a)

  -- no more are kept than there are
  pub bounded_kept : (xs : List A) → length (kept_items has (length xs) xs) ≤ length xs
  bounded_kept xs = subst (λ ys. length ys ≤ length xs) (sym (kept_is xs)) (bounded_from xs 0)

  count_more : (x : A) (ys : List A) (n : ℕ) → length ys ≡ n → (b : Bool) → length (cond b (x ∷ ys) ys) ≡ cond b 1 0 + n
  count_more x ys n h true = omega (arith, h)
  count_more x ys n h false = omega (arith, h)

  count_from : (xs : List A) (a : ℕ) → length (kept_from has a xs) ≡ count_by has (range_with_len a (length xs))
  count_from [] a = refl
  count_from (x ∷ xs) a =
      count_more x (kept_from has (a + 1) xs) (count_by has (range_with_len (a + 1) (length xs))) (count_from xs (a + 1)) (has a)
      ∙ sym (sum_by-cons (λ (k : ℕ). cond (has k) 1 0) a (range_with_len (a + 1) (length xs)))

  -- as many are kept as there are indices that are kept
  pub kept_count : (xs : List A) → length (kept_items has (length xs) xs) ≡ count_below has (length xs)
  kept_count xs = ap length (kept_is xs) ∙ count_from xs 0

  past_one : (x : A) (ys : List A) (n : ℕ) (o : Option A) → slice_get ys n ≡ o → (b : Bool) → slice_get (cond b (x ∷ ys) ys) (cond b 1 0 + n) ≡ o
  past_one x ys n o h true = ap (slice_get (x ∷ ys)) (let e : 1 + n ≡ suc n = omega arith in e) ∙ h
  past_one x ys n o h false = ap (slice_get ys) (let e : 0 + n ≡ n = omega arith in e) ∙ h

  kept_at : (xs : List A) (a n : ℕ) (x : A) → slice_get xs n ≡ Some x → has (a + n) ≡ true
      → slice_get (kept_from has a xs) (count_by has (range_with_len a n)) ≡ Some x
  kept_at [] a n x at h = absurd cc
  kept_at (y ∷ ys) a zero x at h =
      let here : has a ≡ true = ap has (let e : a ≡ a + 0 = omega arith in e) ∙ h in
      ap (λ b. slice_get (cond b (y ∷ kept_from has (a + 1) ys) (kept_from has (a + 1) ys)) 0) here ∙ at
  kept_at (y ∷ ys) a (suc n) x at h =
      ap (slice_get (kept_from has a (y ∷ ys))) (sum_by-cons (λ (k : ℕ). cond (has k) 1 0) a (range_with_len (a + 1) n))
      ∙ past_one y (kept_from has (a + 1) ys) (count_by has (range_with_len (a + 1) n)) (Some x)
      (kept_at ys (a + 1) n x at (ap has (let e : a + 1 + n ≡ a + suc n = omega arith in e) ∙ h)) (has a)

  -- a kept item is at its rank
  pub rank_at : (xs : List A) (n : ℕ) (x : A) → slice_get xs n ≡ Some x → has n ≡ true → slice_get (kept_items has (length xs) xs) (count_below has n) ≡ Some x
  rank_at xs n x at h =
      subst (λ ys. slice_get ys (count_below has n) ≡ Some x) (sym (kept_is xs)) (kept_at xs 0 n x at (ap has (let e : 0 + n ≡ n = omega arith in e) ∙ h))

  -- and its rank is an index of a kept item
  pub rank_below : (xs : List A) (n : ℕ) → n < length xs → has n ≡ true → count_below has n < length (kept_items has (length xs) xs)
  rank_below xs n below h =
      let item = get_some xs n below in
      slice_get_within (kept_items has (length xs) xs) (count_below has n) item.0 (rank_at xs n item.0 item.1 h)

-- imports before other items

keep_all : {A : Type 0} (p : A → Bool) (xs : List A) → AllByRecursion (λ (x : A). p x ≡ true) xs → filter p xs ≡ xs
keep_all p [] h = refl
keep_all p (x ∷ xs) h = rw h.0 (ap (λ ys. x ∷ ys) (keep_all p xs h.1))

keep_none : {A : Type 0} (p : A → Bool) (xs : List A) → AllByRecursion (λ (x : A). p x ≡ false) xs → filter p xs ≡ []
keep_none p [] h = refl
keep_none p (x ∷ xs) h = rw h.0 (keep_none p xs h.1)

opposite : {A : Type 0} (p : A → Bool) (b : Bool) (xs : List A) → AllByRecursion (λ (x : A). p x ≡ b) xs → AllByRecursion (λ (x : A). not (p x) ≡ not b) xs
opposite p b [] h = tt
opposite p b (x ∷ xs) h = (ap not h.0, opposite p b xs h.1)

-- imports, and other items after them
pub two_kinds : {T C : Type 0} (xs ys : List (ItemValue T C)) → AllByRecursion (λ (x : ItemValue T C). is_imported x ≡ true) xs
    → AllByRecursion (λ (y : ItemValue T C). is_imported y ≡ false) ys → HasImportsFirst (xs ++ ys)
two_kinds xs ys a b =
    sym (ap (λ z. z ++ filter is_defined (xs ++ ys)) (filter-append is_imported xs ys
    ∙ (ap (λ z. z ++ filter is_imported ys) (keep_all is_imported xs a) ∙ (ap (λ z. xs ++ z) (keep_none is_imported ys b) ∙ append-nil xs)))
    ∙ ap (λ z. xs ++ z) (filter-append is_defined xs ys
    ∙ (ap (λ z. z ++ filter is_defined ys) (keep_none is_defined xs (opposite is_imported true xs a))
    ∙ keep_all is_defined ys (opposite is_imported false ys b))))

mapped : {A B : Type 0} (p : A → Bool) (q : B → Bool) (f : A → B) (b : Bool) (xs : List A) → ((x : A) → q (f x) ≡ p x)
    → AllByRecursion (λ (x : A). p x ≡ b) xs → AllByRecursion (λ (y : B). q y ≡ b) (map f xs)
mapped p q f b [] h a = tt
mapped p q f b (x ∷ xs) h a = (h x ∙ a.0, mapped p q f b xs h a.1)

-- what is kept of a space, seen by a function that leaves imports imports
pub kept_first : {T U C D : Type 0} (f : ItemValue T C → ItemValue U D) → ((i : ItemValue T C) → is_imported (f i) ≡ is_imported i)
    → (has : ℕ → Bool) (items : List (ItemValue T C)) → HasImportsFirst items
    → HasImportsFirst (map f (kept_items has (length items) items))
kept_first {T} {U} {C} {D} f same has items first =
    let front = filter is_imported items in
    let back = filter is_defined items in
    let fronts : AllByRecursion (λ (x : ItemValue T C). is_imported x ≡ true) front = recursion_from_All _ front (filter_passes is_imported items) in
    let backs : AllByRecursion (λ (x : ItemValue T C). is_imported x ≡ false) back =
    recursion_from_All _ back (All-weaker (λ (x : ItemValue T C). is_defined x ≡ true) (λ (x : ItemValue T C). is_imported x ≡ false)
    (λ x h. not-true (is_imported x) h) back (filter_passes is_defined items)) in
    let one = kept_from has 0 front in
    let two = kept_from has (0 + length front) back in
    let cut : kept_items has (length items) items ≡ one ++ two = kept_is has items ∙ (ap (kept_from has 0) first ∙ kept-append has front back 0) in
    subst HasImportsFirst (sym (ap (map f) cut ∙ map-append f one two))
    (two_kinds (map f one) (map f two)
    (mapped is_imported is_imported f true one same (kept_all has _ front 0 fronts))
    (mapped is_imported is_imported f false two same (kept_all has _ back (0 + length front) backs)))
