-- Components inside components.
use Rattle.std.proofs.Common.{◌≡◌, ℕ, zero, suc, ◌+◌, ◌<◌, ◌≤◌, List, [], ◌∷◌, ◌++◌, length, map, Bool, true, false, nat_eq, refl, sym, ◌∙◌, ap, subst, arith, inl, inr, ◌⊎◌, eqb-true}
use Rattle.std.specs.Prelude.{◌||◌, Contains}
use Rattle.std.specs.List.{list_any, sum_by}
use Rattle.std.proofs.lemmas.Bool.{false≢true}
use Rattle.std.proofs.lemmas.List.Sums.{sum_by-cons, sum_by-append, sum_by_push}
use Rattle.std.proofs.Math.ListN.{length-append}
use Rattle.wc_component_file.specs.Frames.{FrameValue, SpellFramesAt, SpellsComponent, is_core_module, core_module_id, component_id}
use Rattle.wc_component_file.specs.Inside.{HasCoreModules, directly, within, Counts}
use Rattle.wc_component_file.specs.Private.Inside.{components_of}
use Rattle.wc_component_file.proofs.FramesLemmas.{components_one, section_long}

-- members

next_in : (x f : FrameValue) (fs : List FrameValue) → Contains fs f → Contains (x ∷ fs) f
next_in x f fs c = (suc c.0, omega (arith, c.1), c.2)

first_in : (f : FrameValue) (fs : List FrameValue) → Contains (f ∷ fs) f
first_in f fs = (0, omega arith, refl)

-- a core module among sections, and none

pub any_viewed : {A B : Type 0} (p : B → Bool) (view : A → B) (xs : List A) → list_any (λ x. p (view x)) xs ≡ list_any p (map view xs)
any_viewed p view [] = refl
any_viewed p view (x ∷ xs) = ap (λ (t : Bool). p (view x) || t) (any_viewed p view xs)

pub any_module : (fs : List FrameValue) → list_any is_core_module fs ≡ true → (f : FrameValue) × Contains fs f × (f.section.id ≡ core_module_id)
any_module [] e = absurd (false≢true e)
any_module (x ∷ xs) e = by (any_module xs) (nat_eq x.section.id core_module_id) refl
  where
    by : (list_any is_core_module xs ≡ true → (f : FrameValue) × Contains xs f × (f.section.id ≡ core_module_id))
        → (test : Bool) → nat_eq x.section.id core_module_id ≡ test → (f : FrameValue) × Contains (x ∷ xs) f × (f.section.id ≡ core_module_id)
    by again true is = (x, first_in x xs, eqb-true x.section.id core_module_id is)
    by again false is = let r = again (rw is at e) in (r.0, next_in x r.0 xs r.1, r.2)

no_module : (fs : List FrameValue) (f : FrameValue) → list_any is_core_module fs ≡ false → Contains fs f → f.section.id ≡ core_module_id → ⊥
no_module [] f e c is = omega (arith, c.1)
no_module (x ∷ xs) f e (zero, lt, at) is = let same : nat_eq x.section.id core_module_id ≡ true = rw (at, is) refl in false≢true (sym (rw same at e))
no_module (x ∷ xs) f e (suc k, lt, at) is = by (λ none. no_module xs f none (k, omega (arith, lt), at) is) (nat_eq x.section.id core_module_id) refl
  where
    by : (list_any is_core_module xs ≡ false → ⊥) → (test : Bool) → nat_eq x.section.id core_module_id ≡ test → ⊥
    by again true same = false≢true (sym (rw same at e))
    by again false other = again (rw other at e)

-- some of these components have core modules
abbrev pub SomeHas : List (List ℕ) → Type 0
SomeHas [] = ⊥
SomeHas (b ∷ bs) = HasCoreModules b ⊎ SomeHas bs

has_left : (xs ys : List (List ℕ)) → SomeHas xs → SomeHas (xs ++ ys)
has_left [] ys h = absurd h
has_left (x ∷ xs) ys (inl h) = inl h
has_left (x ∷ xs) ys (inr h) = inr (has_left xs ys h)

has_right : (xs ys : List (List ℕ)) → SomeHas ys → SomeHas (xs ++ ys)
has_right [] ys h = h
has_right (x ∷ xs) ys h = inr (has_right xs ys h)

has_cases : (xs ys : List (List ℕ)) → SomeHas (xs ++ ys) → SomeHas xs ⊎ SomeHas ys
has_cases [] ys h = inr h
has_cases (x ∷ xs) ys (inl h) = inl (inl h)
has_cases (x ∷ xs) ys (inr h) = by (has_cases xs ys h)
  where
    by : SomeHas xs ⊎ SomeHas ys → SomeHas (x ∷ xs) ⊎ SomeHas ys
    by (inl s) = inl (inr s)
    by (inr s) = inr s

-- the components inside a component

components_yes : (x : FrameValue) (xs : List FrameValue) → nat_eq x.section.id component_id ≡ true → components_of (x ∷ xs) ≡ x.section.content ∷ components_of xs
components_yes x xs e = rw e refl

components_no : (x : FrameValue) (xs : List FrameValue) → nat_eq x.section.id component_id ≡ false → components_of (x ∷ xs) ≡ components_of xs
components_no x xs e = rw e refl

some_more : (x : FrameValue) (xs : List FrameValue) → SomeHas (components_of xs) → SomeHas (components_of (x ∷ xs))
some_more x xs h = by (nat_eq x.section.id component_id) refl
  where
    by : (test : Bool) → nat_eq x.section.id component_id ≡ test → SomeHas (components_of (x ∷ xs))
    by true same = subst SomeHas (sym (components_yes x xs same)) (inr h)
    by false other = subst SomeHas (sym (components_no x xs other)) h

some_in : (fs : List FrameValue) (f : FrameValue) → Contains fs f → f.section.id ≡ component_id → HasCoreModules f.section.content → SomeHas (components_of fs)
some_in [] f c is h = omega (arith, c.1)
some_in (x ∷ xs) f (zero, lt, at) is h =
    let same : nat_eq x.section.id component_id ≡ true = rw (at, is) refl in
    subst SomeHas (sym (components_yes x xs same)) (inl (subst (λ (y : FrameValue). HasCoreModules y.section.content) (sym at) h))
some_in (x ∷ xs) f (suc k, lt, at) is h = some_more x xs (some_in xs f (k, omega (arith, lt), at) is h)

abbrev InSome : List FrameValue → Type 0
InSome fs = (f : FrameValue) × Contains fs f × (f.section.id ≡ component_id) × HasCoreModules f.section.content

next_in_some : (x : FrameValue) (xs : List FrameValue) → InSome xs → InSome (x ∷ xs)
next_in_some x xs r = (r.0, next_in x r.0 xs r.1, r.2, r.3)

first_or_next : (x : FrameValue) (xs : List FrameValue) → x.section.id ≡ component_id → HasCoreModules x.section.content ⊎ SomeHas (components_of xs) → (SomeHas (components_of xs) → InSome xs) → InSome (x ∷ xs)
first_or_next x xs is (inl h) again = (x, first_in x xs, is, h)
first_or_next x xs is (inr h) again = next_in_some x xs (again h)

some_of : (fs : List FrameValue) → SomeHas (components_of fs) → InSome fs
some_of [] h = absurd h
some_of (x ∷ xs) h = by (some_of xs) (nat_eq x.section.id component_id) refl
  where
    by : (SomeHas (components_of xs) → InSome xs) → (test : Bool) → nat_eq x.section.id component_id ≡ test → InSome (x ∷ xs)
    by again true same = first_or_next x xs (eqb-true x.section.id component_id same) (subst SomeHas (components_yes x xs same) h) again
    by again false other = next_in_some x xs (again (subst SomeHas (components_no x xs other) h))

into_components : {bytes : List ℕ} → HasCoreModules bytes → (fs : List FrameValue) → SpellsComponent bytes fs → list_any is_core_module fs ≡ false → SomeHas (components_of fs)
into_components (directly gs f s c is) fs t none = absurd (no_module fs f none (subst (λ (hs : List FrameValue). Contains hs f) (components_one _ gs fs s t) c) is)
into_components (within gs f s c is h) fs t none = some_in fs f (subst (λ (hs : List FrameValue). Contains hs f) (components_one _ gs fs s t) c) is h

from_components : (bytes : List ℕ) (fs : List FrameValue) → SpellsComponent bytes fs → SomeHas (components_of fs) → HasCoreModules bytes
from_components bytes fs s h = let r = some_of fs h in within fs r.0 s r.1 r.2 r.3

is_well_formed : {bytes : List ℕ} → HasCoreModules bytes → ((fs : List FrameValue) → SpellsComponent bytes fs → ⊥) → ⊥
is_well_formed (directly gs f s c is) none = none gs s
is_well_formed (within gs f s c is h) none = none gs s

-- the search

-- the bytes have core modules exactly where some of those that wait have
pub record AreWaiting (bytes : List ℕ) (waiting : List (List ℕ)) : Type 0 where
  pub to : HasCoreModules bytes → SomeHas waiting
  pub from : SomeHas waiting → HasCoreModules bytes

pub waiting_begin : (bytes : List ℕ) → AreWaiting bytes (bytes ∷ [])
waiting_begin bytes = record { to = λ h. inl h; from = one }
  where
    one : HasCoreModules bytes ⊎ ⊥ → HasCoreModules bytes
    one (inl h) = h
    one (inr h) = absurd h

only_left : (left : List (List ℕ)) (c : List ℕ) → SomeHas left ⊎ SomeHas (c ∷ []) → (HasCoreModules c → SomeHas left) → SomeHas left
only_left left c (inl h) f = h
only_left left c (inr (inl h)) f = f h
only_left left c (inr (inr h)) f = absurd h

pub waiting_pass : (bytes : List ℕ) (left : List (List ℕ)) (c : List ℕ) → AreWaiting bytes (left ++ c ∷ []) → ((fs : List FrameValue) → SpellsComponent c fs → ⊥) → AreWaiting bytes left
waiting_pass bytes left c w none = record {
  to = λ h. only_left left c (has_cases left (c ∷ []) (w.to h)) (λ s. absurd (is_well_formed s none));
  from = λ h. w.from (has_left left (c ∷ []) h);
}

pub waiting_into : (bytes : List ℕ) (left : List (List ℕ)) (c : List ℕ) (fs : List FrameValue) → AreWaiting bytes (left ++ c ∷ []) → SpellsComponent c fs → list_any is_core_module fs ≡ false
    → AreWaiting bytes (left ++ components_of fs)
waiting_into bytes left c fs w s none = record { to = λ h. there (has_cases left (c ∷ []) (w.to h)); from = λ h. w.from (back (has_cases left (components_of fs) h)) }
  where
    there : SomeHas left ⊎ SomeHas (c ∷ []) → SomeHas (left ++ components_of fs)
    there (inl h) = has_left left (components_of fs) h
    there (inr (inl h)) = has_right left (components_of fs) (into_components h fs s none)
    there (inr (inr h)) = absurd h

    back : SomeHas left ⊎ SomeHas (components_of fs) → SomeHas (left ++ c ∷ [])
    back (inl h) = has_left left (c ∷ []) h
    back (inr h) = has_right left (c ∷ []) (inl (from_components c fs s h))

pub waiting_found : (bytes : List ℕ) (left : List (List ℕ)) (c : List ℕ) (fs : List FrameValue) → AreWaiting bytes (left ++ c ∷ []) → SpellsComponent c fs → list_any is_core_module fs ≡ true → HasCoreModules bytes
waiting_found bytes left c fs w s some = let r = any_module fs some in w.from (has_right left (c ∷ []) (inl (directly fs r.0 s r.1 r.2)))

pub waiting_none : (bytes : List ℕ) → AreWaiting bytes [] → HasCoreModules bytes → ⊥
waiting_none bytes w h = w.to h

-- the measure of the search: how many bytes wait, and how many components

abbrev pub waiting_size : List (List ℕ) → ℕ
waiting_size bs = sum_by (λ (b : List ℕ). length b + 1) bs

components_fit : (at : ℕ) (bytes : List ℕ) (fs : List FrameValue) → SpellFramesAt at bytes fs → waiting_size (components_of fs) ≤ length bytes
components_fit at bytes [] s = omega arith
components_fit at bytes (x ∷ xs) s = by (components_fit (at + length s.0) s.1 xs s.4) (ap length s.2 ∙ length-append s.0 s.1) (nat_eq x.section.id component_id) refl
  where
    by : waiting_size (components_of xs) ≤ length s.1 → length bytes ≡ length s.0 + length s.1
        → (test : Bool) → nat_eq x.section.id component_id ≡ test → waiting_size (components_of (x ∷ xs)) ≤ length bytes
    by others all true same =
        let sum = ap waiting_size (components_yes x xs same) ∙ sum_by-cons (λ (b : List ℕ). length b + 1) x.section.content (components_of xs) in
        omega (arith, sum, others, all, section_long s.0 x.section s.3.has_section)
    by others all false other = let sum = ap waiting_size (components_no x xs other) in omega (arith, sum, others, all)

pub smaller_pass : (left : List (List ℕ)) (c : List ℕ) → waiting_size left < waiting_size (left ++ c ∷ [])
smaller_pass left c = omega (arith, sum_by_push (λ (b : List ℕ). length b + 1) left c)

pub smaller_into : (left : List (List ℕ)) (c : List ℕ) (fs : List FrameValue) → SpellsComponent c fs → waiting_size (left ++ components_of fs) < waiting_size (left ++ c ∷ [])
smaller_into left c fs s =
    omega (
      arith,
      sum_by_push (λ (b : List ℕ). length b + 1) left c,
      sum_by-append (λ (b : List ℕ). length b + 1) left (components_of fs),
      components_fit 8 s.rest fs s.has_frames,
      ap length s.cut,
    )

-- how many

pub counts_yes : {A : Type 0} (P : A → Type 0) (xs : List A) (x : A) (n : ℕ) → Counts P xs n → P x → Counts P (xs ++ x ∷ []) (n + 1)
counts_yes P [] x n c p = inl (p, 0, ap (λ (k : ℕ). k + 1) c, refl)
counts_yes P (y ∷ ys) x n (inl c) p = inl (c.0, c.1 + 1, ap (λ (k : ℕ). k + 1) c.2, counts_yes P ys x c.1 c.3 p)
counts_yes P (y ∷ ys) x n (inr c) p = inr (c.0, counts_yes P ys x n c.1 p)

pub counts_no : {A : Type 0} (P : A → Type 0) (xs : List A) (x : A) (n : ℕ) → Counts P xs n → (P x → ⊥) → Counts P (xs ++ x ∷ []) n
counts_no P [] x n c p = inr (p, c)
counts_no P (y ∷ ys) x n (inl c) p = inl (c.0, c.1, c.2, counts_no P ys x c.1 c.3 p)
counts_no P (y ∷ ys) x n (inr c) p = inr (c.0, counts_no P ys x n c.1 p)

pub counts_fit : {A : Type 0} (P : A → Type 0) (xs : List A) (n : ℕ) → Counts P xs n → n ≤ length xs
counts_fit P [] n c = omega (arith, c)
counts_fit P (y ∷ ys) n (inl c) = omega (arith, c.2, counts_fit P ys c.1 c.3)
counts_fit P (y ∷ ys) n (inr c) = omega (arith, counts_fit P ys n c.1)
