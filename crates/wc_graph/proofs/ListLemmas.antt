-- Lists: positions, elements of a filter or a map, and what fills up a list.
use Rattle.std.proofs.Common.{◌≡◌, ℕ, zero, suc, ◌<◌, List, [], ◌∷◌, length, map, refl, Some, arith, ◌≢◌, set, ap, ◌∙◌, ◌+◌, ◌++◌, ◌-◌, sym, Bool, true, false, cond, ◌≤◌, take, replicate, None}
use Rattle.std.specs.Prelude.{filter, Contains, IsTrue, nat_lt}
use Rattle.std.specs.List.{slice_get, AllByRecursion, range_with_len}
use Rattle.std.proofs.lemmas.List.{get_or-set_same, length-set, get_or-map, length-map, take_all}
use Rattle.std.proofs.lemmas.Option.{slice_get-get_or, get_or_from_slice_get, slice_get_past}
use Rattle.std.proofs.lemmas.Bool.{false≢true, ltb-false}
use Rattle.std.proofs.lemmas.List.Elements.{Contains-append_left, Contains-append_right, Contains-push, All-contains, All-from_recursion, All-contains_itself, recursion_from_All}

-- there is an item at each index below the length
pub get_some : {A : Type 0} (xs : List A) (n : ℕ) → n < length xs → (x : A) × (slice_get xs n ≡ Some x)
get_some [] n h = absurd (omega arith)
get_some (x ∷ xs) zero h = (x, refl)
get_some (x ∷ xs) (suc n) h = get_some xs n (omega arith)

pub get_set_other : {X : Type 0} (xs : List X) (n k : ℕ) (x : X) → k ≢ n → slice_get (set xs n x) k ≡ slice_get xs k
get_set_other [] n k x d = refl
get_set_other (z ∷ xs) zero zero x d = absurd (d refl)
get_set_other (z ∷ xs) zero (suc k) x d = refl
get_set_other (z ∷ xs) (suc n) zero x d = refl
get_set_other (z ∷ xs) (suc n) (suc k) x d = get_set_other xs n k x (λ e. d (ap suc e))

pub set_same : {A : Type 0} (xs : List A) (i : ℕ) (v : A) → i < length xs → slice_get (set xs i v) i ≡ Some v
set_same xs i v h = slice_get-get_or (set xs i v) i v (let l = length-set xs i v in omega (arith, l, h)) ∙ ap Some (get_or-set_same xs i v v h)

pub get_front : {A : Type 0} (xs ys : List A) (n : ℕ) (x : A) → slice_get xs n ≡ Some x → slice_get (xs ++ ys) n ≡ Some x
get_front [] ys n x e = absurd cc
get_front (z ∷ xs) ys zero x e = e
get_front (z ∷ xs) ys (suc n) x e = get_front xs ys n x e

pub get_last : {A : Type 0} (xs : List A) (x : A) → slice_get (xs ++ x ∷ []) (length xs) ≡ Some x
get_last [] x = refl
get_last (z ∷ xs) x = get_last xs x

pub back_at : {A : Type 0} (xs ys : List A) (n : ℕ) → slice_get (xs ++ ys) (length xs + n) ≡ slice_get ys n
back_at [] ys n = ap (slice_get ys) (let e : 0 + n ≡ n = omega arith in e)
back_at (x ∷ xs) ys n = ap (slice_get (x ∷ (xs ++ ys))) (let e : suc (length xs) + n ≡ suc (length xs + n) = omega arith in e) ∙ back_at xs ys n

pub contains_mapped : {A B : Type 0} (f : A → B) (xs : List A) (x : A) → Contains xs x → Contains (map f xs) (f x)
contains_mapped f xs x c = (c.0, (let l = length-map xs f in omega (arith, l, c.1)), get_or-map f xs c.0 x (f x) c.1 ∙ ap f c.2)

named_more : {A : Type 0} (p : A → Bool) (P : A → Type 0) (x : A) (xs : List A) → (((y : A) → Contains (filter p xs) y → P y) → AllByRecursion (λ y. IsTrue (p y) → P y) xs)
    → (b : Bool) → p x ≡ b → ((y : A) → Contains (cond b (x ∷ filter p xs) (filter p xs)) y → P y) → AllByRecursion (λ y. IsTrue (p y) → P y) (x ∷ xs)
named_more p P x xs rest true e h = ((λ k. h x (Contains-append_left (x ∷ []) (filter p xs) x (Contains-push [] x))), rest (λ y c. h y (Contains-append_right (x ∷ []) (filter p xs) y c)))
named_more p P x xs rest false e h = ((λ k. absurd (false≢true (sym e ∙ k))), rest h)

pub each_named : {A : Type 0} (p : A → Bool) (P : A → Type 0) (xs : List A) → ((y : A) → Contains (filter p xs) y → P y) → AllByRecursion (λ y. IsTrue (p y) → P y) xs
each_named p P [] h = tt
each_named p P (x ∷ xs) h = named_more p P x xs (each_named p P xs) (p x) refl h

pub in_all : {A : Type 0} (P : A → Type 0) (xs : List A) (x : A) → AllByRecursion P xs → Contains xs x → P x
in_all P xs x h c = All-contains P xs x (All-from_recursion P xs h) c

pub in_filter : {A : Type 0} (p : A → Bool) (xs : List A) (x : A) → Contains xs x → p x ≡ true → Contains (filter p xs) x
in_filter p xs x c h = in_all (λ y. IsTrue (p y) → Contains (filter p xs) y) xs x (each_named p (Contains (filter p xs)) xs (λ y k. k)) c h

pub contains_unmapped : {A B : Type 0} (f : A → B) (xs : List A) (y : B) → Contains (map f xs) y → (x : A) × Contains xs x × (f x ≡ y)
contains_unmapped f xs y c =
    let below : c.0 < length xs = let l = length-map xs f in let h = c.1 in omega (arith, l, h) in
    let x = get_some xs c.0 below in
    let at = get_or_from_slice_get xs c.0 x.0 x.0 x.1 in
    (x.0, (c.0, below, at), sym (ap f at) ∙ (sym (get_or-map f xs c.0 x.0 y below) ∙ c.2))

pub all_filter : {A : Type 0} (P : A → Type 0) (p : A → Bool) (xs : List A) → AllByRecursion P xs → AllByRecursion P (filter p xs)
all_filter P p [] h = tt
all_filter P p (x ∷ xs) h =
    elim (p x) as (λ b. AllByRecursion P (cond b (x ∷ filter p xs) (filter p xs))) [
      | true ↦
          (h.0, all_filter P p xs h.1)
      | false ↦ all_filter P p xs h.1
    ]

pub from_filter : {A : Type 0} (p : A → Bool) (xs : List A) (x : A) → Contains (filter p xs) x → Contains xs x
from_filter p xs x c =
    in_all (Contains xs) (filter p xs) x (all_filter (Contains xs) p xs (recursion_from_All (Contains xs) xs (All-contains_itself xs))) c

-- a list that was filled up with one number
pub resized : (finder new : List ℕ) (result held now before next : ℕ) → new ≡ take result finder ++ replicate (result - held) next → result ≡ now
    → held ≡ before → length finder ≡ before → before ≤ now → new ≡ finder ++ replicate (now - before) next
resized finder new result held now before next e r h l b =
    let k : result - held ≡ now - before = omega arith in
    e ∙ (ap (λ z. z ++ replicate (result - held) next) (take_all result finder (omega arith)) ∙ ap (λ z. finder ++ replicate z next) k)

pub range_more : (a n : ℕ) → range_with_len a (suc n) ≡ range_with_len a n ++ (a + n) ∷ []
range_more a zero = let e : a ≡ a + 0 = omega arith in ap (λ k. k ∷ []) e
range_more a (suc n) = ap (λ l. a ∷ l) (range_more (a + 1) n ∙ (let e : a + 1 + n ≡ a + suc n = omega arith in ap (λ k. range_with_len (a + 1) n ++ k ∷ []) e))

pub falls_by : (total next found : ℕ) → next < found → found ≤ total → total - (next + 1) < total - next
falls_by total next found h k = omega arith

pub no_item : {X : Type 0} (xs : List X) (i : ℕ) → false ≡ nat_lt i (length xs) → slice_get xs i ≡ None
no_item xs i e = slice_get_past xs i (ltb-false i (length xs) (sym e))
