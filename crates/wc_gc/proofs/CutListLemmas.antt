-- A list and the items of it that are kept: how many come before an index, and which pass a test, in the one and the other.
use Rattle.std.proofs.Common.{◌≡◌, ℕ, zero, suc, ◌+◌, ◌<◌, ◌≤◌, List, [], ◌∷◌, ◌++◌, length, map, refl, sym, ◌∙◌, ap, Bool, true, false, ◌&&◌, cond}
use Rattle.std.proofs.Common.{Some, arith, append-nil}
use Rattle.std.specs.Prelude.{filter}
use Rattle.std.specs.List.{enumerate_from, range_with_len, slice_get, AllByRecursion}
use Rattle.std.proofs.lemmas.Bool.{false≢true}
use Rattle.std.proofs.lemmas.List.{map-append}
use Rattle.std.proofs.lemmas.List.Elements.{filter-append}
use Rattle.wc_gc.specs.Counts.{count_below}
use Rattle.wc_gc.specs.Image.{kept_items}
use Rattle.wc_gc.proofs.KeptItemLemmas.{kept_from, kept_is}
use Rattle.wc_gc.proofs.RankLemmas.{one_more}
use Rattle.wc_graph.proofs.ListLemmas.{range_more}

abbrev unit_if : Bool → ℕ
unit_if b = cond b 1 0

-- a test and another that holds of less

pub and_of_true : (b t u : Bool) → b ≡ true → u ≡ t → u ≡ (b && t)
and_of_true true t u h e = e
and_of_true false t u h e = absurd (false≢true h)

pub split_all : {A : Type 0} (P : A → Type 0) (xs ys : List A) → AllByRecursion P (xs ++ ys) → AllByRecursion P xs × AllByRecursion P ys
split_all P [] ys h = (tt, h)
split_all P (x ∷ xs) ys h = let r = split_all P xs ys h.1 in ((h.0, r.0), r.1)

-- nothing is taken out

keep_from : {A : Type 0} (xs : List A) (a : ℕ) → kept_from (λ n. true) a xs ≡ xs
keep_from [] a = refl
keep_from (x ∷ xs) a = ap (λ ys. x ∷ ys) (keep_from xs (a + 1))

pub keep_all : {A : Type 0} (xs : List A) → kept_items (λ n. true) (length xs) xs ≡ xs
keep_all xs = kept_is (λ n. true) xs ∙ keep_from xs 0

pub count_all : (n : ℕ) → count_below (λ k. true) n ≡ n
count_all zero = refl
count_all (suc n) = let more = one_more (λ k. true) n in let rest = count_all n in omega (arith, more, rest)

-- how many numbers below one are in a set

module _ (has : ℕ → Bool) where
  abbrev pub rank_in : ℕ → ℕ
  rank_in n = count_below has n

  pub rank_yes : (n : ℕ) → has n ≡ true → rank_in (suc n) ≡ suc (rank_in n)
  rank_yes n h = let more = one_more has n in let one : unit_if (has n) ≡ 1 = ap unit_if h in omega (arith, more, one)

  pub rank_no : (n : ℕ) → has n ≡ false → rank_in (suc n) ≡ rank_in n
  rank_no n h = let more = one_more has n in let one : unit_if (has n) ≡ 0 = ap unit_if h in omega (arith, more, one)

  -- of the items of the set one test says what the other says of their ranks; the first passes no other items
  pub record AreSameTests (size : ℕ) (old new : ℕ → Bool) : Type 0 where
    pub same : (n : ℕ) → n < size → has n ≡ true → new (rank_in n) ≡ old n
    pub none : (n : ℕ) → has n ≡ false → old n ≡ false

  module _ (size : ℕ) (old new : ℕ → Bool) (t : AreSameTests size old new) where
    count_step : (n : ℕ) → n < size → count_below new (rank_in n) ≡ count_below old n → (b : Bool) → has n ≡ b → count_below new (rank_in (suc n))
        ≡ count_below old (suc n)
    count_step n l e true h =
        let a = one_more new (rank_in n) in
        let b = one_more old n in
        let c = ap unit_if (t.same n l h) in
        ap (count_below new) (rank_yes n h) ∙ omega (arith, a, b, c, e)
    count_step n l e false h =
        let b = one_more old n in
        let c : unit_if (old n) ≡ 0 = ap unit_if (t.none n h) in
        ap (count_below new) (rank_no n h) ∙ omega (arith, b, c, e)

    -- below the rank of an item as many ranks pass as items pass below it
    pub count_moved : (n : ℕ) → n ≤ size → count_below new (rank_in n) ≡ count_below old n
    count_moved zero l = refl
    count_moved (suc n) l = count_step n (omega arith) (count_moved n (omega arith)) (has n) refl

    last_step : (test : ℕ → Bool) (n : ℕ) → filter test (range_with_len 0 (suc n)) ≡ filter test (range_with_len 0 n) ++ cond (test n) (n ∷ []) []
    last_step test n =
        let last : 0 + n ≡ n = omega arith in
        ap (filter test) (range_more 0 n ∙ ap (λ k. range_with_len 0 n ++ k ∷ []) last) ∙ filter-append test (range_with_len 0 n) (n ∷ [])

    one_moved : (b c : Bool) (n : ℕ) → c ≡ b → cond c (rank_in n ∷ []) [] ≡ map rank_in (cond b (n ∷ []) [])
    one_moved true true n e = refl
    one_moved true false n e = absurd cc
    one_moved false true n e = absurd cc
    one_moved false false n e = refl

    filter_step : (n : ℕ) → n < size → filter new (range_with_len 0 (rank_in n)) ≡ map rank_in (filter old (range_with_len 0 n)) → (b : Bool) → has n
        ≡ b
        → filter new (range_with_len 0 (rank_in (suc n))) ≡ map rank_in (filter old (range_with_len 0 (suc n)))
    filter_step n l e true h =
        ap (λ k. filter new (range_with_len 0 k)) (rank_yes n h)
        ∙ (last_step new (rank_in n)
        ∙ (ap (λ ns. ns ++ cond (new (rank_in n)) (rank_in n ∷ []) []) e
        ∙ (ap (λ ns. map rank_in (filter old (range_with_len 0 n)) ++ ns) (one_moved (old n) (new (rank_in n)) n (t.same n l h))
        ∙ (sym (map-append rank_in (filter old (range_with_len 0 n)) (cond (old n) (n ∷ []) []))
        ∙ ap (map rank_in) (sym (last_step old n))))))
    filter_step n l e false h =
        ap (λ k. filter new (range_with_len 0 k)) (rank_no n h)
        ∙ (e
        ∙ ap (map rank_in)
        (sym (append-nil (filter old (range_with_len 0 n)))
        ∙ (ap (λ b. filter old (range_with_len 0 n) ++ cond b (n ∷ []) []) (sym (t.none n h)) ∙ sym (last_step old n))))

    -- so the ranks that pass are, in order, those of the items that pass
    pub filter_moved : (n : ℕ) → n ≤ size → filter new (range_with_len 0 (rank_in n)) ≡ map rank_in (filter old (range_with_len 0 n))
    filter_moved zero l = refl
    filter_moved (suc n) l = filter_step n (omega arith) (filter_moved n (omega arith)) (has n) refl

-- each item is edited with its index, and some are kept: it is the same to take out the items outside the set first, and to
-- edit each of the rest with its rank

module _ {A B C D E : Type 0} (has old new : ℕ → Bool) (all : List A) (view : A → C) (one : ℕ × A → B) (two : ℕ × C → D) (f : B → E) (g : D → E)
    (each : (n : ℕ) (x : A) → slice_get all n ≡ Some x → has n ≡ true
    → (new (count_below has n) ≡ old n) × (f (one (n, x)) ≡ g (two (count_below has n, view x))))
    (none : (n : ℕ) → has n ≡ false → old n ≡ false) where
  abbrev OfAll : ℕ → List A → List E
  OfAll a xs = map f (kept_from old a (map one (enumerate_from a xs)))

  abbrev OfKept : ℕ → List A → List E
  OfKept b ys = map g (kept_from new b (map two (enumerate_from b (map view ys))))

  both_cond : (x : B) (y : D) (xs : List B) (ys : List D) → f x ≡ g y → map f xs ≡ map g ys → (b : Bool) → map f (cond b (x ∷ xs) xs)
      ≡ map g (cond b (y ∷ ys) ys)
  both_cond x y xs ys h k true = ap (λ z. z ∷ map f xs) h ∙ ap (λ zs. g y ∷ zs) k
  both_cond x y xs ys h k false = k

  edited_step : (a : ℕ) (x : A) (xs : List A) → slice_get all a ≡ Some x
      → OfAll (a + 1) xs ≡ OfKept (count_below has (a + 1)) (kept_from has (a + 1) xs) → (b : Bool) → has a ≡ b
      → OfAll a (x ∷ xs) ≡ OfKept (count_below has a) (cond b (x ∷ kept_from has (a + 1) xs) (kept_from has (a + 1) xs))
  edited_step a x xs at rest true h =
      let e = each a x at h in
      let next : count_below has (a + 1)
      ≡ count_below has a + 1 = (let s : a + 1 ≡ suc a = omega arith in let y = rank_yes has a h in ap (count_below has) s ∙ omega (arith, y)) in
      both_cond (one (a, x)) (two (count_below has a, view x)) (kept_from old (a + 1) (map one (enumerate_from (a + 1) xs)))
      (kept_from new (count_below has a + 1) (map two (enumerate_from (count_below has a + 1) (map view (kept_from has (a + 1) xs))))) e.1
      (rest ∙ ap (λ k. OfKept k (kept_from has (a + 1) xs)) next) (old a)
      ∙ ap (λ (b : Bool). map g
      (cond b (two (count_below has a, view x) ∷ kept_from new (count_below has a + 1)
      (map two (enumerate_from (count_below has a + 1) (map view (kept_from has (a + 1) xs)))))
      (kept_from new (count_below has a + 1) (map two (enumerate_from (count_below has a + 1) (map view (kept_from has (a + 1) xs))))))) (sym e.0)
  edited_step a x xs at rest false h =
      let next : count_below has (a + 1) ≡ count_below has a = (let s : a + 1 ≡ suc a = omega arith in ap (count_below has) s ∙ rank_no has a h) in
      ap (λ (b : Bool). map f
      (cond b (one (a, x) ∷ kept_from old (a + 1) (map one (enumerate_from (a + 1) xs)))
      (kept_from old (a + 1) (map one (enumerate_from (a + 1) xs))))) (none a h)
      ∙ (rest ∙ ap (λ k. OfKept k (kept_from has (a + 1) xs)) next)

  edited_from : (xs : List A) (a : ℕ) → ((i : ℕ) → slice_get all (a + i) ≡ slice_get xs i) → OfAll a xs
      ≡ OfKept (count_below has a) (kept_from has a xs)
  edited_from [] a at = refl
  edited_from (x ∷ xs) a at =
      edited_step a x xs (ap (slice_get all) (let e : a ≡ a + 0 = omega arith in e) ∙ at 0)
      (edited_from xs (a + 1) (λ i. ap (slice_get all) (let e : a + 1 + i ≡ a + suc i = omega arith in e) ∙ at (suc i))) (has a) refl

  pub edited_moved : map f (kept_items old (length (map one (enumerate_from 0 all))) (map one (enumerate_from 0 all)))
      ≡ map g (kept_items new (length (map two (enumerate_from 0 (map view (kept_items has (length all) all)))))
      (map two (enumerate_from 0 (map view (kept_items has (length all) all)))))
  edited_moved =
      ap (map f) (kept_is old (map one (enumerate_from 0 all)))
      ∙ (edited_from all 0 (λ i. ap (slice_get all) (let e : 0 + i ≡ i = omega arith in e))
      ∙ (ap (λ ys. OfKept 0 ys) (sym (kept_is has all))
      ∙ ap (map g) (sym (kept_is new (map two (enumerate_from 0 (map view (kept_items has (length all) all))))))))
