-- Two lists of which what is at a position belongs together, one after another.
use Rattle.std.proofs.Common.{◌≡◌, ℕ, ◌+◌, ◌<◌, suc, List, [], ◌∷◌, ◌++◌, length, map, take, get_or, sym, ◌∙◌, subst, arith}
use Rattle.std.proofs.lemmas.List.{length-map, length-take-le}
use Rattle.wc_maps.proofs.ListLemmas.{passed_more}
use Rattle.wc_component_file.specs.Told.{EachAt}

each_push : {A B : Type 0} (P : ℕ → A → B → Type 0) (xs : List A) (ys : List B) (x : A) (y : B) → EachAt P xs ys → P (length xs) x y
    → EachAt P (xs ++ x ∷ []) (ys ++ y ∷ [])
each_push P [] [] x y each here = (here, tt)
each_push P [] (b ∷ ys) x y each here = absurd each
each_push P (a ∷ xs) [] x y each here = absurd each
each_push P (a ∷ xs) (b ∷ ys) x y each here = (each.0, each_push (λ k. P (suc k)) xs ys x y each.1 here)

module _ {R A B : Type 0} (P : ℕ → A → B → Type 0) (view : R → A) (xs : List R) where
  passed_length : (k : ℕ) → k < length xs → length (map view (take k xs)) ≡ k
  passed_length k lt = length-map (take k xs) view ∙ length-take-le k xs (omega arith)

  pub each_more : (k : ℕ) (d : R) (ys new : List B) (y : B) → k < length xs → EachAt P (map view (take k xs)) ys → P k (view (get_or xs k d)) y
      → new ≡ ys ++ y ∷ [] → EachAt P (map view (take (k + 1) xs)) new
  each_more k d ys new y lt each here put =
      let one = subst (λ n. P n (view (get_or xs k d)) y) (sym (passed_length k lt)) here in
      let both = each_push P (map view (take k xs)) ys (view (get_or xs k d)) y each one in
      subst (λ l. EachAt P l new) (sym (passed_more view xs k d lt)) (subst (EachAt P (map view (take k xs) ++ view (get_or xs k d) ∷ [])) (sym put) both)
