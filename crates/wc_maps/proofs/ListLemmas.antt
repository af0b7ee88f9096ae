-- Lists: what they contain, and what is seen of their elements by a view, one element after another.
use Rattle.std.proofs.Common.{◌≡◌, ◌↔◌, ◌⊎◌, ◌||◌, inl, inr, ℕ, ◌+◌, ◌<◌, zero, suc, Bool, true, false, cond, List, [], ◌∷◌, ◌++◌, map, filter, length, take, drop, get_or, All, Contains, Some, refl, sym, ◌∙◌, ap, subst, arith}
use Rattle.std.specs.List.{list_any}
use Rattle.std.specs.Option.{option_map}
use Rattle.std.specs.Prelude.{slice_get}
use Rattle.std.proofs.lemmas.Bool.{or_cases}
use Rattle.std.proofs.lemmas.List.{map-append, take_more}
use Rattle.std.proofs.lemmas.List.Elements.{All-append, All-cons, All-nil, Contains-append_left, Contains-append_right, Contains-append_cases, Contains-push, Contains-push_cases}
use Rattle.std.proofs.lemmas.Option.{slice_get-map, slice_get-get_or}

-- what a list contains, from its first element on

pub contains_none : {X : Type 0} (x : X) → Contains [] x → ⊥
contains_none x h = omega (arith, h.1)

pub contains_head : {X : Type 0} (xs : List X) (x : X) → Contains (x ∷ xs) x
contains_head xs x = Contains-append_left (x ∷ []) xs x (Contains-push [] x)

pub contains_tail : {X : Type 0} (y : X) (xs : List X) (x : X) → Contains xs x → Contains (y ∷ xs) x
contains_tail y xs x h = Contains-append_right (y ∷ []) xs x h

pub contains_cons : {X : Type 0} (y : X) (xs : List X) (x : X) → Contains (y ∷ xs) x → (y ≡ x) ⊎ Contains xs x
contains_cons y xs x h =
    elim (Contains-append_cases (y ∷ []) xs x h) [
      | inl front ↦ elim (Contains-push_cases [] y x front) [ inl none ↦ absurd (contains_none x none) | inr same ↦ inl same ]
      | inr rest ↦ inr rest
    ]

-- the view of the element at an index
pub view_found : {X Y : Type 0} (f : X → Y) (xs : List X) (i : ℕ) (d : X) → i < length xs → slice_get (map f xs) i ≡ Some (f (get_or xs i d))
view_found f xs i d small = slice_get-map f xs i ∙ ap (λ o. option_map f o) (slice_get-get_or xs i d small)

pub viewed_at : {X Y : Type 0} (f : X → Y) (xs : List X) (i : ℕ) (x : X) → i < length xs → x ≡ get_or xs i x → slice_get (map f xs) i ≡ Some (f x)
viewed_at f xs i x lt is = view_found f xs i x lt ∙ ap (λ z. Some (f z)) (sym is)

-- the last element, at its index
pub slice_get_last : {X : Type 0} (xs : List X) (x : X) → slice_get (xs ++ x ∷ []) (length xs) ≡ Some x
slice_get_last [] x = refl
slice_get_last (y ∷ xs) x = slice_get_last xs x

-- tests of what is seen of elements
pub any_viewed : {X Y : Type 0} (f : X → Y) (test : Y → Bool) (xs : List X) → list_any test (map f xs) ≡ list_any (λ x. test (f x)) xs
any_viewed f test [] = refl
any_viewed f test (x ∷ xs) = ap (λ b. test (f x) || b) (any_viewed f test xs)

-- elements that pass a test are as many as those whose views do
pub count_map : {A B : Type 0} (f : A → B) (test : B → Bool) (xs : List A) → length (filter test (map f xs)) ≡ length (filter (λ x. test (f x)) xs)
count_map f test [] = refl
count_map f test (x ∷ xs) = count_step (test (f x)) (count_map f test xs)
  where
    count_step : (b : Bool) → length (filter test (map f xs)) ≡ length (filter (λ x. test (f x)) xs)
        → length (cond b (f x ∷ filter test (map f xs)) (filter test (map f xs))) ≡ length (cond b (x ∷ filter (λ x. test (f x)) xs) (filter (λ x. test (f x)) xs))
    count_step true same = ap suc same
    count_step false same = same

module _ {X V : Type 0} (v : X → V) where
  -- what comes before an element, and after it
  pub cut_at : (xs : List X) (k : ℕ) (d : X) → k < length xs → map v xs ≡ map v (take k xs) ++ v (get_or xs k d) ∷ map v (drop (suc k) xs)
  cut_at [] k d lt = absurd (omega arith)
  cut_at (y ∷ ys) zero d lt = refl
  cut_at (y ∷ ys) (suc k) d lt = ap (λ l. v y ∷ l) (cut_at ys k d (omega arith))

  -- one more is passed
  pub passed_more : (xs : List X) (k : ℕ) (d : X) → k < length xs → map v (take (k + 1) xs) ≡ map v (take k xs) ++ v (get_or xs k d) ∷ []
  passed_more xs k d lt = ap (map v) (take_more xs k d lt) ∙ map-append v (take k xs) _

  -- what holds of all that were passed, and of one more
  pub all_more : (P : V → Type 0) (xs : List X) (k : ℕ) (d : X) → k < length xs → All P (map v (take k xs)) → P (v (get_or xs k d))
      → All P (map v (take (k + 1) xs))
  all_more P xs k d lt all here =
      subst (All P) (sym (passed_more xs k d lt)) (All-append P (map v (take k xs)) (v (get_or xs k d) ∷ []) all
      (All-cons P (v (get_or xs k d)) [] here (All-nil P)))

pub length_one : {X : Type 0} (xs : List X) (k : X) → length (xs ++ k ∷ []) ≡ suc (length xs)
length_one [] k = refl
length_one (x ∷ xs) k = ap suc (length_one xs k)

pub or_step : (b c d e : Bool) → c ≡ (d || e) → (b || c) ≡ ((b || d) || e)
or_step true c d e h = refl
or_step false c d e h = h

-- what passes a test is among what is seen
pub any_held : {K V : Type 0} (v : K → V) (test : K → Bool) (n : V) → ((y : K) → (test y ≡ true) ↔ (n ≡ v y)) → (keys : List K) → list_any test keys ≡ true
    → Contains (map v keys) n
any_held v test n law [] is = absurd cc
any_held {K} {V} v test n law (x ∷ keys) is = elim (or_cases (test x) (list_any test keys) is) [
  | inl passes ↦ subst (λ (z : V). Contains (v x ∷ map v keys) z) (sym ((law x).0 passes)) (contains_head (map v keys) (v x))
  | inr later ↦ contains_tail (v x) (map v keys) n (any_held v test n law keys later)
]
