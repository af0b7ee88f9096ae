-- Things that are picked from a list, when it is gone through.
use Rattle.std.proofs.Common.{◌≡◌, ℕ, ◌+◌, ◌<◌, Bool, true, false, cond, List, [], ◌∷◌, ◌++◌, length, map, filter, take, get_or, refl, sym, ◌∙◌, ap, append_assoc, append-nil, arith, suc}
use Rattle.std.proofs.lemmas.List.{map-append, take_more}
use Rattle.std.proofs.lemmas.List.Concat.{flat_map-append}
use Rattle.std.proofs.lemmas.List.Elements.{filter-append}
use Rattle.std.specs.List.{flat_map, range_with_len}
use Rattle.wc_graph.proofs.ListLemmas.{range_more}

-- of a list one more of which is passed
pub taken_more : {R A : Type 0} (view : R → A) (xs : List R) (k : ℕ) (d : R) → k < length xs
    → map view (take (k + 1) xs) ≡ map view (take k xs) ++ view (get_or xs k d) ∷ []
taken_more view xs k d lt = ap (map view) (take_more xs k d lt) ∙ map-append view (take k xs) (get_or xs k d ∷ [])

-- those that pass a test were put after others, and one more is, if it does
pub kept_more : {R A : Type 0} (view : R → A) (p : A → Bool) (xs : List R) (k : ℕ) (d : R) (old now new : List A) → k < length xs
    → now ≡ old ++ filter p (map view (take k xs)) → new ≡ now ++ cond (p (view (get_or xs k d))) (view (get_or xs k d) ∷ []) []
    → new ≡ old ++ filter p (map view (take (k + 1) xs))
kept_more view p xs k d old now new lt e put =
    let before = map view (take k xs) in
    let x = view (get_or xs k d) in
    put ∙ (ap (λ z. z ++ cond (p x) (x ∷ []) []) e ∙ (append_assoc old (filter p before) (cond (p x) (x ∷ []) [])
    ∙ ap (λ z. old ++ z) (sym (ap (filter p) (taken_more view xs k d lt) ∙ filter-append p before (x ∷ [])))))

-- lists of things were put one after another, and one more is
pub joined_more : {R A B : Type 0} (view : R → A) (f : A → List B) (xs : List R) (k : ℕ) (d : R) (old now new : List B) → k < length xs
    → now ≡ old ++ flat_map f (map view (take k xs)) → new ≡ now ++ f (view (get_or xs k d)) → new ≡ old ++ flat_map f (map view (take (k + 1) xs))
joined_more view f xs k d old now new lt e put =
    let before = map view (take k xs) in
    let x = view (get_or xs k d) in
    put ∙ (ap (λ z. z ++ f x) e ∙ (append_assoc old (flat_map f before) (f x)
    ∙ ap (λ z. old ++ z) (sym (ap (flat_map f) (taken_more view xs k d lt) ∙ (flat_map-append f before (x ∷ []) ∙ ap (λ z. flat_map f before ++ z) (append-nil (f x)))))))

module _ {A B : Type 0} (p : A → Bool) (f : A → B) where
  one_mapped : (b : Bool) (x : A) → map f (cond b (x ∷ []) []) ≡ cond b (f x ∷ []) []
  one_mapped true x = refl
  one_mapped false x = refl

  pub picked_more : (xs : List A) (x : A) → map f (filter p (xs ++ x ∷ [])) ≡ map f (filter p xs) ++ cond (p x) (f x ∷ []) []
  picked_more xs x =
      ap (map f) (filter-append p xs (x ∷ [])) ∙ (map-append f (filter p xs) (cond (p x) (x ∷ []) []) ∙ ap (λ z. map f (filter p xs) ++ z) (one_mapped (p x) x))

  -- these were put after others, and one more is
  module _ {R : Type 0} (view : R → A) (xs : List R) (k : ℕ) (d : R) (lt : k < length xs) where
    pub put_more : (old now new : List B) → now ≡ old ++ map f (filter p (map view (take k xs)))
        → new ≡ now ++ cond (p (view (get_or xs k d))) (f (view (get_or xs k d)) ∷ []) [] → new ≡ old ++ map f (filter p (map view (take (k + 1) xs)))
    put_more old now new e put =
        let before = map view (take k xs) in
        let x = view (get_or xs k d) in
        put ∙ (ap (λ z. z ++ cond (p x) (f x ∷ []) []) e ∙ (append_assoc old (map f (filter p before)) (cond (p x) (f x ∷ []) [])
        ∙ ap (λ z. old ++ z) (sym (ap (λ z. map f (filter p z)) (taken_more view xs k d lt) ∙ picked_more before x))))

    pub first_more : (now new : List B) → now ≡ map f (filter p (map view (take k xs)))
        → new ≡ now ++ cond (p (view (get_or xs k d))) (f (view (get_or xs k d)) ∷ []) [] → new ≡ map f (filter p (map view (take (k + 1) xs)))
    first_more now new e put = put_more [] now new e put

pub listed_more : {A B : Type 0} (f : A → List B) (xs : List A) (k : ℕ) (d : A) (old now new : List B) → k < length xs
    → now ≡ old ++ flat_map f (take k xs) → new ≡ now ++ f (get_or xs k d) → new ≡ old ++ flat_map f (take (k + 1) xs)
listed_more f xs k d old now new lt e put =
    let before = take k xs in
    let x = get_or xs k d in
    put ∙ (ap (λ z. z ++ f x) e ∙ (append_assoc old (flat_map f before) (f x)
    ∙ ap (λ z. old ++ z) (sym (ap (flat_map f) (take_more xs k d lt) ∙ (flat_map-append f before (x ∷ []) ∙ ap (λ z. flat_map f before ++ z) (append-nil (f x)))))))

-- the same at the positions of a list
pub ranged_more : {B : Type 0} (f : ℕ → List B) (k : ℕ) (old now new : List B) → now ≡ old ++ flat_map f (range_with_len 0 k) → new ≡ now ++ f k
    → new ≡ old ++ flat_map f (range_with_len 0 (k + 1))
ranged_more f k old now new e put =
    let before = range_with_len 0 k in
    let next : k + 1 ≡ suc k = omega arith in
    let same : 0 + k ≡ k = omega arith in
    let more : range_with_len 0 (k + 1) ≡ before ++ k ∷ [] =
    ap (range_with_len 0) next ∙ (range_more 0 k ∙ ap (λ n. before ++ n ∷ []) same) in
    put ∙ (ap (λ z. z ++ f k) e ∙ (append_assoc old (flat_map f before) (f k)
    ∙ ap (λ z. old ++ z) (sym (ap (flat_map f) more ∙ (flat_map-append f before (k ∷ []) ∙ ap (λ z. flat_map f before ++ z) (append-nil (f k)))))))

-- of each thing of a list one was put, and of one more
pub mapped_more : {R A B : Type 0} (view : R → A) (f : A → B) (xs : List R) (k : ℕ) (d : R) (now new : List B) → k < length xs
    → now ≡ map f (map view (take k xs)) → new ≡ now ++ f (view (get_or xs k d)) ∷ [] → new ≡ map f (map view (take (k + 1) xs))
mapped_more view f xs k d now new lt e put =
    let before = map view (take k xs) in
    let x = view (get_or xs k d) in
    put ∙ (ap (λ z. z ++ f x ∷ []) e ∙ sym (ap (map f) (taken_more view xs k d lt) ∙ map-append f before (x ∷ [])))
