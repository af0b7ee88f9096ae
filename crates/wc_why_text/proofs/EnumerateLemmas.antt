-- What a loop over positions makes of the elements of a list, each with its position.
use Rattle.std.proofs.Common.{◌≡◌, ℕ, ◌+◌, ◌<◌, ◌≤◌, List, [], ◌∷◌, ◌++◌, map, length, take, get_or, Some, sym, ap, ◌∙◌, append_assoc, append-nil, zero-add, arith}
use Rattle.std.specs.List.{enumerate_from, flat_map, slice_get}
use Rattle.std.proofs.lemmas.Grind.{flat_map-append}
use Rattle.std.proofs.lemmas.List.{map-append, take_all, take_more}
use Rattle.std.proofs.lemmas.List.FromFn.{get_or-enumerate_from, length-enumerate_from}
use Rattle.std.proofs.lemmas.Option.{get_or_from_slice_get, slice_get_within}
use Rattle.wc_maps.proofs.ListLemmas.{view_found}

module _ {V : Type 0} (ys : List V) where
  numbered_more : (i : ℕ) (y : V) → slice_get ys i ≡ Some y → take (i + 1) (enumerate_from 0 ys) ≡ take i (enumerate_from 0 ys) ++ (i, y) ∷ []
  numbered_more i y at =
      let within : i < length ys = slice_get_within ys i y at in
      take_more (enumerate_from 0 ys) i (i, y) (omega (arith, length-enumerate_from 0 ys, within))
      ∙ ap (λ (e : ℕ × V). take i (enumerate_from 0 ys) ++ e ∷ [])
      (get_or-enumerate_from 0 ys i (i, y) within ∙ (λ j. (zero-add i j, get_or_from_slice_get ys i y y at j)))

  numbered_all : (i : ℕ) → length ys ≤ i → take i (enumerate_from 0 ys) ≡ enumerate_from 0 ys
  numbered_all i past = take_all i (enumerate_from 0 ys) (omega (arith, length-enumerate_from 0 ys, past))

-- the lists of the first elements, one after another, after others; and that of one more
module _ {V A : Type 0} (f : ℕ × V → List A) (ys : List V) where
  pub put_more : (i : ℕ) (y : V) (base front new part : List A) → slice_get ys i ≡ Some y → front ≡ base ++ flat_map f (take i (enumerate_from 0 ys))
      → new ≡ front ++ part → part ≡ f (i, y) → new ≡ base ++ flat_map f (take (i + 1) (enumerate_from 0 ys))
  put_more i y base front new part at before put is =
      let done : List A = flat_map f (take i (enumerate_from 0 ys)) in
      put ∙ (λ j. before j ++ is j) ∙ append_assoc base done (f (i, y))
      ∙ ap (λ (l : List A). base ++ l)
      (sym (ap (flat_map f) (numbered_more ys i y at)
      ∙ flat_map-append f (take i (enumerate_from 0 ys)) ((i, y) ∷ [])
      ∙ ap (λ (l : List A). done ++ l) (append-nil (f (i, y)))))

  pub put_all : (i : ℕ) (base new : List A) → length ys ≤ i → new ≡ base ++ flat_map f (take i (enumerate_from 0 ys)) → new ≡ base ++ flat_map f (enumerate_from 0 ys)
  put_all i base new past is = is ∙ ap (λ (l : List (ℕ × V)). base ++ flat_map f l) (numbered_all ys i past)

-- the same of values that are copied
pub put_copy : {X V A : Type 0} (view : X → V) (f : ℕ × V → List A) (xs : List X) (i : ℕ) (d : X) (base front new part : List A) → i < length xs
    → front ≡ base ++ flat_map f (take i (enumerate_from 0 (map view xs))) → new ≡ front ++ part → part ≡ f (i, view (get_or xs i d))
    → new ≡ base ++ flat_map f (take (i + 1) (enumerate_from 0 (map view xs)))
put_copy view f xs i d base front new part within before put is =
    put_more f (map view xs) i (view (get_or xs i d)) base front new part (view_found view xs i d within) before put is

-- the same of the first elements alone
module _ {V A : Type 0} (f : ℕ × V → List A) (ys : List V) where
  pub join_more : (i : ℕ) (y : V) (front new part : List A) → slice_get ys i ≡ Some y → front ≡ flat_map f (take i (enumerate_from 0 ys))
      → new ≡ front ++ part → part ≡ f (i, y) → new ≡ flat_map f (take (i + 1) (enumerate_from 0 ys))
  join_more i y front new part at before put is = put_more f ys i y [] front new part at before put is

  pub join_all : (i : ℕ) (new : List A) → length ys ≤ i → new ≡ flat_map f (take i (enumerate_from 0 ys)) → new ≡ flat_map f (enumerate_from 0 ys)
  join_all i new past is = put_all f ys i [] new past is

pub join_copy : {X V A : Type 0} (view : X → V) (f : ℕ × V → List A) (xs : List X) (i : ℕ) (d : X) (front new part : List A) → i < length xs
    → front ≡ flat_map f (take i (enumerate_from 0 (map view xs))) → new ≡ front ++ part → part ≡ f (i, view (get_or xs i d))
    → new ≡ flat_map f (take (i + 1) (enumerate_from 0 (map view xs)))
join_copy view f xs i d front new part within before put is = put_copy view f xs i d [] front new part within before put is

-- a value for each of the first elements, and for one more
module _ {V Y W : Type 0} (f : ℕ × V → W) (seen : Y → W) (ys : List V) where
  pub list_more : (i : ℕ) (y : V) (zs new : List Y) (z : Y) → slice_get ys i ≡ Some y → map seen zs ≡ map f (take i (enumerate_from 0 ys))
      → new ≡ zs ++ z ∷ [] → seen z ≡ f (i, y) → map seen new ≡ map f (take (i + 1) (enumerate_from 0 ys))
  list_more i y zs new z at before put is =
      ap (map seen) put ∙ map-append seen zs (z ∷ []) ∙ (λ j. before j ++ is j ∷ [])
      ∙ sym (ap (map f) (numbered_more ys i y at) ∙ map-append f (take i (enumerate_from 0 ys)) ((i, y) ∷ []))

  pub list_all : (i : ℕ) (zs : List Y) → length ys ≤ i → map seen zs ≡ map f (take i (enumerate_from 0 ys)) → map seen zs ≡ map f (enumerate_from 0 ys)
  list_all i zs past is = is ∙ ap (map f) (numbered_all ys i past)
