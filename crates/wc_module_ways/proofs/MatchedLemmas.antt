-- Two lists that are matched place by place, when one more is put to each.
use Rattle.std.proofs.Common.{◌≡◌, ℕ, zero, suc, ◌+◌, ◌<◌, List, [], ◌∷◌, ◌++◌, length, map, take, get_or, Some, sym, ◌∙◌, ap, append_assoc, subst, arith}
use Rattle.std.proofs.Math.ListN.{length-append}
use Rattle.std.proofs.lemmas.List.{map-append, take_all}
use Rattle.std.proofs.lemmas.Option.{same_Some, slice_get_within}
use Rattle.std.specs.List.{slice_get}
use Rattle.std.specs.Prelude.{◌≤◌}
use Rattle.wc_import_paths.proofs.PickedLemmas.{taken_more}
use Rattle.wc_module_ways.specs.Matched.{AreMatched}

module _ {A B : Type 0} (Is : A → B → Type 0) where
  pub none_matched : (ys : List B) → ys ≡ [] → AreMatched Is [] ys
  none_matched ys none =
      record { each = ap (λ (z : List B). length z) none; at = λ k x y e. absurd (let w = slice_get_within [] k x e in omega (arith, w)) }

  last_or_before : (xs : List A) (ys : List B) (a : A) (b : B) → length ys ≡ length xs
      → ((k : ℕ) (x : A) (y : B) → slice_get xs k ≡ Some x → slice_get ys k ≡ Some y → Is x y) → Is a b
      → (k : ℕ) (x : A) (y : B) → slice_get (xs ++ a ∷ []) k ≡ Some x → slice_get (ys ++ b ∷ []) k ≡ Some y → Is x y
  last_or_before [] [] a b e h is zero x y at also = subst (λ z. Is z y) (same_Some a x at) (subst (Is a) (same_Some b y also) is)
  last_or_before [] [] a b e h is (suc k) x y at also = absurd (let w = slice_get_within [] k x at in omega (arith, w))
  last_or_before [] (r ∷ ys) a b e h is k x y at also = absurd (omega (arith, e))
  last_or_before (c ∷ xs) [] a b e h is k x y at also = absurd (omega (arith, e))
  last_or_before (c ∷ xs) (r ∷ ys) a b e h is zero x y at also = h 0 x y at also
  last_or_before (c ∷ xs) (r ∷ ys) a b e h is (suc k) x y at also =
      last_or_before xs ys a b (omega (arith, e)) (λ j d s one two. h (suc j) d s one two) is k x y at also

  pub matched_next : (xs : List A) (ys : List B) (a : A) (b : B) → AreMatched Is xs ys → Is a b → AreMatched Is (xs ++ a ∷ []) (ys ++ b ∷ [])
  matched_next xs ys a b h is = record {
    each = length-append ys (b ∷ []) ∙ (ap (λ n. n + 1) h.each ∙ sym (length-append xs (a ∷ [])));
    at = last_or_before xs ys a b h.each h.at is;
  }

  -- the same of things that are gone through
  module _ {R S : Type 0} (view : R → A) (out : S → B) (xs : List R) where
    pub matched_more : (k : ℕ) (d : R) → k < length xs → (old new : List S) (s : S) → new ≡ old ++ s ∷ []
        → AreMatched Is (map view (take k xs)) (map out old) → Is (view (get_or xs k d)) (out s) → AreMatched Is (map view (take (k + 1) xs)) (map out new)
    matched_more k d lt old new s put h is =
        let before = map view (take k xs) in
        let v = view (get_or xs k d) in
        subst (λ z. AreMatched Is z (map out new)) (sym (taken_more view xs k d lt))
        (subst (AreMatched Is (before ++ v ∷ [])) (sym (ap (map out) put ∙ map-append out old (s ∷ [])))
        (matched_next before (map out old) v (out s) h is))

    pub all_matched : (k : ℕ) (ys : List B) → length xs ≤ k → AreMatched Is (map view (take k xs)) ys → AreMatched Is (map view xs) ys
    all_matched k ys all h = subst (λ z. AreMatched Is (map view z) ys) (take_all k xs all) h

-- views of things that are gone through, put one after another
pub mapped_more : {R S A B : Type 0} (view : R → A) (out : S → B) (f : A → B) (xs : List R) (k : ℕ) (d : R) (s : S) (old now new : List S) → k < length xs
    → map out now ≡ map out old ++ map f (map view (take k xs)) → out s ≡ f (view (get_or xs k d)) → new ≡ now ++ s ∷ []
    → map out new ≡ map out old ++ map f (map view (take (k + 1) xs))
mapped_more view out f xs k d s old now new lt h is put =
    let before = map view (take k xs) in
    let v = view (get_or xs k d) in
    ap (map out) put ∙ (map-append out now (s ∷ [])
    ∙ ((λ t. h t ++ is t ∷ [])
    ∙ (append_assoc (map out old) (map f before) (f v ∷ [])
    ∙ ap (λ z. map out old ++ z) (sym (ap (map f) (taken_more view xs k d lt) ∙ map-append f before (v ∷ []))))))
