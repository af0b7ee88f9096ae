-- Elements of lists that are kept, found first, or looked up by their names.
use Rattle.std.proofs.Common.{◌≡◌, ◌⊎◌, ℕ, zero, suc, Bool, true, false, cond, List, [], ◌∷◌, map, All, Contains, Option, Some, None, slice_get, refl, sym, ap, subst, ◌∙◌, inl, inr}
use Rattle.std.specs.List.{AllZip, cons_option, filter_map, flat_map}
use Rattle.std.specs.Map.{lookup}
use Rattle.std.specs.Option.{option_map}
use Rattle.std.specs.Str.{bytes_eq}
use Rattle.std.proofs.lemmas.Bool.{true≢false}
use Rattle.std.proofs.lemmas.List.Elements.{All-contains_itself, All-weaker, Contains-append_left, Contains-append_right}
use Rattle.wc_maps.proofs.ListLemmas.{contains_cons, contains_head, contains_none, contains_tail}
use Rattle.wc_validate.specs.Imports.AdapterTypes.{first_some}
use Rattle.wc_validate.specs.Imports.Entries.{first_by}
use Rattle.wc_validate.proofs.InstanceLemmas.{same, self}

pub some_same : {X : Type 0} {x y : X} → Some x ≡ Some y → x ≡ y
some_same e = cc e

pub none_some : {X : Type 0} (x : X) → None ≡ Some x → ⊥
none_some x e = let bad : ⊥ = cc e in bad

-- what a mapped value is made of
pub mapped_from : {X Y : Type 0} (f : X → Y) (o : Option X) (y : Y) → option_map f o ≡ Some y → (x : X) × (o ≡ Some x) × (f x ≡ y)
mapped_from f None y h = absurd (none_some y h)
mapped_from f (Some x) y h = (x, refl, some_same h)

pub all_by : {X : Type 0} (P : X → Type 0) (xs : List X) → ((x : X) → Contains xs x → P x) → All P xs
all_by P xs each = All-weaker (Contains xs) P each xs (All-contains_itself xs)

-- elements at positions
pub position_of : {X : Type 0} (xs : List X) (x : X) → Contains xs x → (k : ℕ) × (slice_get xs k ≡ Some x)
position_of [] x h = absurd (contains_none x h)
position_of (y ∷ xs) x h = elim (contains_cons y xs x h) [
  | inl is ↦ (0, ap Some is)
  | inr later ↦ (let rest = position_of xs x later in (suc rest.0, rest.1))
]

pub contains_at : {X : Type 0} (xs : List X) (k : ℕ) (x : X) → slice_get xs k ≡ Some x → Contains xs x
contains_at [] k x at = absurd (none_some x at)
contains_at (y ∷ xs) zero x at = subst (Contains (y ∷ xs)) (some_same at) (contains_head xs y)
contains_at (y ∷ xs) (suc k) x at = contains_tail y xs x (contains_at xs k x at)

module _ {X Y : Type 0} (R : X → Y → Type 0) where
  pub zipped_at : (xs : List X) (ys : List Y) (k : ℕ) (y : Y) → AllZip R xs ys → slice_get ys k ≡ Some y → (x : X) × (slice_get xs k ≡ Some x) × R x y
  zipped_at [] [] k y h at = absurd (none_some y at)
  zipped_at [] (z ∷ ys) k y h at = absurd h
  zipped_at (x ∷ xs) [] k y h at = absurd h
  zipped_at (x ∷ xs) (z ∷ ys) zero y h at = (x, refl, subst (R x) (some_same at) h.0)
  zipped_at (x ∷ xs) (z ∷ ys) (suc k) y h at = zipped_at xs ys k y h.1 at

  pub zipped : (xs : List X) (ys : List Y) (k : ℕ) (x : X) (y : Y) → AllZip R xs ys → slice_get xs k ≡ Some x → slice_get ys k ≡ Some y → R x y
  zipped xs ys k x y h at_x at_y = let found = zipped_at xs ys k y h at_y in subst (λ z. R z y) (some_same (sym found.1 ∙ at_x)) found.2

-- elements of the parts of a list
pub mapped_there : {X Y : Type 0} (f : X → Y) (xs : List X) (x : X) → Contains xs x → Contains (map f xs) (f x)
mapped_there f [] x h = absurd (contains_none x h)
mapped_there f (y ∷ xs) x h = elim (contains_cons y xs x h) [
  | inl is ↦ subst (λ z. Contains (f y ∷ map f xs) (f z)) is (contains_head (map f xs) (f y))
  | inr later ↦ contains_tail (f y) (map f xs) (f x) (mapped_there f xs x later)
]

pub flat_there : {X Y : Type 0} (f : X → List Y) (xs : List X) (x : X) (y : Y) → Contains xs x → Contains (f x) y → Contains (flat_map f xs) y
flat_there f [] x y h there = absurd (contains_none x h)
flat_there f (z ∷ xs) x y h there = elim (contains_cons z xs x h) [
  | inl is ↦ Contains-append_left (f z) (flat_map f xs) y (subst (λ a. Contains (f a) y) (sym is) there)
  | inr later ↦ Contains-append_right (f z) (flat_map f xs) y (flat_there f xs x y later there)
]

-- what is kept of a list
kept_first : {Y : Type 0} (o : Option Y) (ys : List Y) (y : Y) → Contains (cons_option o ys) y → (o ≡ Some y) ⊎ Contains ys y
kept_first None ys y h = inr h
kept_first (Some z) ys y h = elim (contains_cons z ys y h) [ inl e ↦ inl (ap Some e) | inr later ↦ inr later ]

kept_here : {Y : Type 0} (o : Option Y) (ys : List Y) (y : Y) → o ≡ Some y → Contains (cons_option o ys) y
kept_here o ys y e = subst (λ z. Contains (cons_option z ys) y) (sym e) (contains_head ys y)

kept_later : {Y : Type 0} (o : Option Y) (ys : List Y) (y : Y) → Contains ys y → Contains (cons_option o ys) y
kept_later None ys y h = h
kept_later (Some z) ys y h = contains_tail z ys y h

module _ {X Y : Type 0} (f : X → Option Y) where
  -- an element of what is kept is made of one of the list
  pub kept_from : (xs : List X) (y : Y) → Contains (filter_map f xs) y → (x : X) × Contains xs x × (f x ≡ Some y)
  kept_from [] y h = absurd (contains_none y h)
  kept_from (x ∷ xs) y h = elim (kept_first (f x) (filter_map f xs) y h) [
    | inl e ↦ (x, contains_head xs x, e)
    | inr later ↦ (let r = kept_from xs y later in (r.0, contains_tail x xs r.0 r.1, r.2))
  ]

  pub kept_there : (xs : List X) (x : X) (y : Y) → Contains xs x → f x ≡ Some y → Contains (filter_map f xs) y
  kept_there [] x y h e = absurd (contains_none x h)
  kept_there (z ∷ xs) x y h e = elim (contains_cons z xs x h) [
    | inl is ↦ kept_here (f z) (filter_map f xs) y (ap f is ∙ e)
    | inr later ↦ kept_later (f z) (filter_map f xs) y (kept_there xs x y later e)
  ]

-- what is found first
either_some : {Y : Type 0} (o p : Option Y) (y : Y) → first_some o p ≡ Some y → (o ≡ Some y) ⊎ (p ≡ Some y)
either_some None p y h = inr h
either_some (Some z) p y h = inl h

some_there : {Y : Type 0} (o p : Option Y) (y : Y) → (o ≡ Some y) ⊎ ((z : Y) × (p ≡ Some z)) → (z : Y) × (first_some o p ≡ Some z)
some_there (Some z) p y h = (z, refl)
some_there None p y (inl e) = absurd (none_some y e)
some_there None p y (inr h) = h

module _ {X Y : Type 0} (f : X → Option Y) where
  pub first_from : (xs : List X) (y : Y) → first_by f xs ≡ Some y → (x : X) × Contains xs x × (f x ≡ Some y)
  first_from [] y h = absurd (none_some y h)
  first_from (x ∷ xs) y h = elim (either_some (f x) (first_by f xs) y h) [
    | inl e ↦ (x, contains_head xs x, e)
    | inr later ↦ (let r = first_from xs y later in (r.0, contains_tail x xs r.0 r.1, r.2))
  ]

  pub first_there : (xs : List X) (x : X) (y : Y) → Contains xs x → f x ≡ Some y → (z : Y) × (first_by f xs ≡ Some z)
  first_there [] x y h e = absurd (contains_none x h)
  first_there (z ∷ xs) x y h e = elim (contains_cons z xs x h) [
    | inl is ↦ some_there (f z) (first_by f xs) y (inl (ap f is ∙ e))
    | inr later ↦ some_there (f z) (first_by f xs) y (inr (first_there xs x y later e))
  ]

-- what is looked up
pub pair_same : {A B : Type 0} (x : A × B) (a : A) (b : B) → x.0 ≡ a → x.1 ≡ b → x ≡ (a, b)
pair_same x a b p q = λ k. (p k, q k)

module _ {V : Type 0} (name : List ℕ) where
  found_at : (e : List ℕ × V) (es : List (List ℕ × V)) (v : V) (b : Bool) → bytes_eq name e.0 ≡ b → cond b (Some e.1) (lookup (bytes_eq name) es) ≡ Some v
      → (lookup (bytes_eq name) es ≡ Some v → Contains es (name, v)) → Contains (e ∷ es) (name, v)
  found_at e es v true is h rest = subst (Contains (e ∷ es)) (pair_same e name v (sym (same name e.0 is)) (some_same h)) (contains_head es e)
  found_at e es v false is h rest = contains_tail e es (name, v) (rest h)

  pub found_there : (es : List (List ℕ × V)) (v : V) → lookup (bytes_eq name) es ≡ Some v → Contains es (name, v)
  found_there [] v h = absurd (none_some v h)
  found_there (e ∷ es) v h = found_at e es v (bytes_eq name e.0) refl h (found_there es v)

  looked_at : (e : List ℕ × V) (es : List (List ℕ × V)) (b : Bool) → bytes_eq name e.0 ≡ b → (e.0 ≡ name) ⊎ ((w : V) × (lookup (bytes_eq name) es ≡ Some w))
      → (w : V) × (cond b (Some e.1) (lookup (bytes_eq name) es) ≡ Some w)
  looked_at e es true is h = (e.1, refl)
  looked_at e es false is (inl h) = absurd (true≢false (sym (ap (bytes_eq name) h ∙ self name) ∙ is))
  looked_at e es false is (inr h) = h

  pub looked_up : (es : List (List ℕ × V)) (v : V) → Contains es (name, v) → (w : V) × (lookup (bytes_eq name) es ≡ Some w)
  looked_up [] v h = absurd (contains_none (name, v) h)
  looked_up (e ∷ es) v h = elim (contains_cons e es (name, v) h) [
    | inl is ↦ looked_at e es (bytes_eq name e.0) refl (inl (ap (λ (x : List ℕ × V). x.0) is))
    | inr later ↦ looked_at e es (bytes_eq name e.0) refl (inr (looked_up es v later))
  ]
