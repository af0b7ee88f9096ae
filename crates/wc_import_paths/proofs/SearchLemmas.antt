-- Lists that are gone through for an element that fits.
use Rattle.std.proofs.Common.{◌≡◌, ◌∙◌, ℕ, zero, suc, ◌+◌, ◌<◌, Bool, true, false, ◌||◌, sym, List, [], ◌∷◌, length, map, take, get_or, Some, None, refl, subst, arith, inl, inr}
use Rattle.std.proofs.lemmas.Bool.{cases_Bool}
use Rattle.std.proofs.lemmas.List.Folds.{list_any_more}
use Rattle.std.specs.List.{find, list_any}

module _ {X Y : Type 0} (v : X → Y) (f : Y → Bool) where
  pub found_here : (xs : List X) (k : ℕ) (d : X) → k < length xs → find f (map v (take k xs)) ≡ None → f (v (get_or xs k d)) ≡ true
      → find f (map v xs) ≡ Some (v (get_or xs k d))
  found_here [] k d lt none is = absurd (omega arith)
  found_here (x ∷ xs) zero d lt none is = rw is refl
  found_here (x ∷ xs) (suc k) d lt none is = elim (cases_Bool (f (v x))) [
    | inl yes_it ↦ absurd (let both : Some (v x) ≡ None = rw yes_it at none in cc)
    | inr no_it ↦ rw no_it (found_here xs k d (omega arith) (rw no_it at none) is)
  ]

  none_next : (xs : List X) (k : ℕ) (d : X) → k < length xs → find f (map v (take k xs)) ≡ None → f (v (get_or xs k d)) ≡ false
      → find f (map v (take (suc k) xs)) ≡ None
  none_next [] k d lt none is = absurd (omega arith)
  none_next (x ∷ xs) zero d lt none is = rw is refl
  none_next (x ∷ xs) (suc k) d lt none is = elim (cases_Bool (f (v x))) [
    | inl yes_it ↦ absurd (let both : Some (v x) ≡ None = rw yes_it at none in cc)
    | inr no_it ↦ rw no_it (none_next xs k d (omega arith) (rw no_it at none) is)
  ]

  pub none_more : (xs : List X) (k : ℕ) (d : X) → k < length xs → find f (map v (take k xs)) ≡ None → f (v (get_or xs k d)) ≡ false
      → find f (map v (take (k + 1) xs)) ≡ None
  none_more xs k d lt none is =
      let next : suc k ≡ k + 1 = omega arith in
      subst (λ n. find f (map v (take n xs)) ≡ None) next (none_next xs k d lt none is)

  pub any_here : (xs : List X) (k : ℕ) (d : X) → k < length xs → f (v (get_or xs k d)) ≡ true → list_any f (map v xs) ≡ true
  any_here [] k d lt is = absurd (omega arith)
  any_here (x ∷ xs) zero d lt is = rw is refl
  any_here (x ∷ xs) (suc k) d lt is = elim (cases_Bool (f (v x))) [
    | inl yes_it ↦ rw yes_it refl
    | inr no_it ↦ rw no_it (any_here xs k d (omega arith) is)
  ]

-- tests that are the same; of two tests one; none
pub any_same : {X : Type 0} (f g : X → Bool) (xs : List X) → ((x : X) → f x ≡ g x) → list_any f xs ≡ list_any g xs
any_same f g [] e = refl
any_same f g (x ∷ xs) e = rw (e x) (rw (any_same f g xs e) refl)

pub any_either : {X : Type 0} (f g : X → Bool) (xs : List X) → list_any (λ x. f x || g x) xs ≡ (list_any f xs || list_any g xs)
any_either f g [] = refl
any_either f g (x ∷ xs) = rw (any_either f g xs) (crossed (f x) (g x) (list_any f xs) (list_any g xs))
  where
    crossed : (a b c d : Bool) → ((a || b) || (c || d)) ≡ ((a || c) || (b || d))
    crossed true b c d = refl
    crossed false true true d = refl
    crossed false true false d = refl
    crossed false false c d = refl

pub none_any : {X : Type 0} (xs : List X) → list_any (λ (x : X). false) xs ≡ false
none_any [] = refl
none_any (x ∷ xs) = none_any xs

-- a list that is seen otherwise
any_seen : {X Y : Type 0} (v : X → Y) (f : Y → Bool) (xs : List X) → list_any f (map v xs) ≡ list_any (λ x. f (v x)) xs
any_seen v f [] = refl
any_seen v f (x ∷ xs) = rw (any_seen v f xs) refl

pub any_next : {X Y : Type 0} (v : X → Y) (f : Y → Bool) (xs : List X) (k : ℕ) (d : X) → k < length xs
    → list_any f (map v (take (k + 1) xs)) ≡ (list_any f (map v (take k xs)) || f (v (get_or xs k d)))
any_next v f xs k d lt = any_seen v f (take (k + 1) xs) ∙ (list_any_more (λ x. f (v x)) xs k d lt ∙ sym (rw (any_seen v f (take k xs)) refl))
