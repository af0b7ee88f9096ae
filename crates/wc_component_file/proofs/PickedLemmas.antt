-- Things that are picked from a list, when it is gone through.
use Rattle.std.proofs.Common.{◌≡◌, ℕ, ◌+◌, ◌<◌, Bool, true, false, ◌&&◌, ◌||◌, List, [], ◌∷◌, ◌++◌, length, map, take, drop, get_or, zero, suc, refl, sym, ◌∙◌, ap, arith}
use Rattle.std.proofs.Math.Bool.{and-false, or-true, or-false}
use Rattle.std.proofs.lemmas.List.Elements.{filter_map-append}
use Rattle.std.proofs.lemmas.List.Folds.{list_any-append}
use Rattle.std.specs.List.{filter_map, list_all, list_any}
use Rattle.std.specs.Option.{option_to_list}
use Rattle.std.specs.Prelude.{Option, Some, None}
use Rattle.wc_maps.proofs.ListLemmas.{cut_at, passed_more}

module _ {R A : Type 0} (view : R → A) (xs : List R) (k : ℕ) (d : R) (lt : k < length xs) where
  abbrev front : List A
  front = map view (take k xs)

  abbrev here : A
  here = view (get_or xs k d)

  mapped_one : {B : Type 0} (f : A → Option B) (o : Option B) (x : A) → f x ≡ o → filter_map f (x ∷ []) ≡ option_to_list o
  mapped_one f None x e = rw e refl
  mapped_one f (Some b) x e = rw e refl

  -- what there is of each
  pub found_more : {B : Type 0} (f : A → Option B) (now new : List B) → now ≡ filter_map f (map view (take k xs))
      → new ≡ now ++ option_to_list (f (view (get_or xs k d))) → new ≡ filter_map f (map view (take (k + 1) xs))
  found_more f now new e put =
      put ∙ (ap (λ z. z ++ option_to_list (f here)) e
      ∙ sym (ap (filter_map f) (passed_more view xs k d lt) ∙ (filter_map-append f front (here ∷ []) ∙ ap (λ z. filter_map f front ++ z) (mapped_one f (f here) here refl))))

  -- whether one passes a test
  pub any_more : (p : A → Bool) → list_any p (map view (take (k + 1) xs)) ≡ (list_any p (map view (take k xs)) || p (view (get_or xs k d)))
  any_more p =
      ap (list_any p) (passed_more view xs k d lt) ∙ (list_any-append p front (here ∷ []) ∙ ap (λ b. list_any p front || b) (or-false (p here)))

  pub any_here : (p : A → Bool) → p (view (get_or xs k d)) ≡ true → list_any p (map view xs) ≡ true
  any_here p passes =
      ap (list_any p) (cut_at view xs k d lt) ∙ (list_any-append p front (here ∷ map view (drop (suc k) xs)) ∙ rw passes (or-true (list_any p front)))

-- one that does not pass
pub not_all : {A : Type 0} (p : A → Bool) (xs : List A) (k : ℕ) (d : A) → k < length xs → p (get_or xs k d) ≡ false → list_all p xs ≡ false
not_all p [] k d lt fails = absurd (omega (arith, lt))
not_all p (x ∷ xs) zero d lt fails = rw fails refl
not_all p (x ∷ xs) (suc k) d lt fails = ap (λ b. p x && b) (not_all p xs k d (omega arith) fails) ∙ and-false (p x)

pub not_all_seen : {R A : Type 0} (view : R → A) (p : A → Bool) (xs : List R) (k : ℕ) (d : R) → k < length xs → p (view (get_or xs k d)) ≡ false
    → list_all p (map view xs) ≡ false
not_all_seen view p [] k d lt fails = absurd (omega (arith, lt))
not_all_seen view p (x ∷ xs) zero d lt fails = rw fails refl
not_all_seen view p (x ∷ xs) (suc k) d lt fails = ap (λ b. p (view x) && b) (not_all_seen view p xs k d (omega arith) fails) ∙ and-false (p (view x))
