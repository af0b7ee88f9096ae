-- Entries by modules, and one entry more.
use Rattle.std.proofs.Common.{◌≡◌, ◌⊎◌, ℕ, Bool, true, false, not, ◌||◌, cond, OnOk, Result, Ok, Err, List, [], ◌∷◌, ◌++◌, map, Some, None, refl, sym, ap, subst, ◌∙◌, inl, inr}
use Rattle.std.specs.List.{filter, filter_map, cons_option}
use Rattle.std.specs.Map.{lookup}
use Rattle.std.specs.Str.{bytes_eq}
use Rattle.std.proofs.lemmas.Slice.Eq.{bytes_eq-Decides}
use Rattle.std.proofs.lemmas.List.{map-append}
use Rattle.std.proofs.lemmas.List.Elements.{filter-append, filter_map-append}
use Rattle.wc_adapters.specs.Adapters.{WhichView}
use Rattle.wc_validate.specs.Imports.Entries.{Entry, single, whole, entry_module, InstanceRecord, names_of, single_of, whole_of, instance_record, by_modules, Records, IsAllRecorded}
use Rattle.wc_texts.specs.Names.{first_occurrences}
use Rattle.wc_validate.specs.Imports.Instances.{add_to, put_in, IsFree}
use Rattle.wc_names.specs.Views.{ImportView}

pub self : (m : List ℕ) → bytes_eq m m ≡ true
self m = (bytes_eq-Decides m m).1 refl

pub same : (m k : List ℕ) → bytes_eq m k ≡ true → m ≡ k
same m k h = (bytes_eq-Decides m k).0 h

pub other : (m k : List ℕ) → bytes_eq m k ≡ false → bytes_eq k m ≡ false
other m k h = at (bytes_eq k m) refl where
  at : (b : Bool) → bytes_eq k m ≡ b → b ≡ false
  at false e = refl
  at true e = absurd (let t : true ≡ false = sym (self k) ∙ (ap (λ z. bytes_eq z k) (same k m e) ∙ h) in let bad : ⊥ = cc t in bad)

abbrev pub NoneIs : List ℕ → List (List ℕ) → Type 0
NoneIs m [] = Unit {0}
NoneIs m (k ∷ ks) = (bytes_eq m k ≡ false) × NoneIs m ks

abbrev pub IsOnce : List ℕ → List (List ℕ) → Type 0
IsOnce m [] = ⊥
IsOnce m (k ∷ ks) = ((bytes_eq m k ≡ true) × NoneIs m ks) ⊎ ((bytes_eq m k ≡ false) × IsOnce m ks)

abbrev without : List ℕ → List (List ℕ) → List (List ℕ)
without m ks = filter (λ k. not (bytes_eq m k)) ks

-- what is left out keeps these
none_at : (m k : List ℕ) (rest : List (List ℕ)) (b : Bool) → bytes_eq m k ≡ false → NoneIs m rest → NoneIs m (cond (not b) (k ∷ rest) rest)
none_at m k rest true h more = more
none_at m k rest false h more = (h, more)

none_filter : (m a : List ℕ) (ks : List (List ℕ)) → NoneIs m ks → NoneIs m (without a ks)
none_filter m a [] h = tt
none_filter m a (k ∷ ks) h = none_at m k (without a ks) (bytes_eq a k) h.0 (none_filter m a ks h.1)

gone_at : (m k : List ℕ) (rest : List (List ℕ)) (b : Bool) → bytes_eq m k ≡ b → NoneIs m rest → NoneIs m (cond (not b) (k ∷ rest) rest)
gone_at m k rest true h more = more
gone_at m k rest false h more = (h, more)

gone : (m : List ℕ) (ks : List (List ℕ)) → NoneIs m (without m ks)
gone m [] = tt
gone m (k ∷ ks) = gone_at m k (without m ks) (bytes_eq m k) refl (gone m ks)

once_at : (m a k : List ℕ) (rest : List (List ℕ)) (b : Bool) → bytes_eq a k ≡ b → bytes_eq a m ≡ false → ((bytes_eq m k ≡ true) × NoneIs m rest)
    ⊎ ((bytes_eq m k ≡ false) × IsOnce m rest) → IsOnce m (cond (not b) (k ∷ rest) rest)
once_at m a k rest false is differ h = h
once_at m a k rest true is differ (inl h) =
    absurd (let t : true ≡ false = sym is ∙ (ap (bytes_eq a) (sym (same m k h.0)) ∙ differ) in let bad : ⊥ = cc t in bad)
once_at m a k rest true is differ (inr h) = h.1

once_filter : (m a : List ℕ) (ks : List (List ℕ)) → bytes_eq a m ≡ false → IsOnce m ks → IsOnce m (without a ks)
once_filter m a [] differ h = h
once_filter m a (k ∷ ks) differ (inl h) = once_at m a k (without a ks) (bytes_eq a k) refl differ (inl (h.0, none_filter m a ks h.1))
once_filter m a (k ∷ ks) differ (inr h) = once_at m a k (without a ks) (bytes_eq a k) refl differ (inr (h.0, once_filter m a ks differ h.1))

-- a module that was seen, or wasn't
abbrev pub among : List ℕ → List (List ℕ) → Bool
among m [] = false
among m (k ∷ ks) = bytes_eq m k || among m ks

seen_at : (m a : List ℕ) (ms : List (List ℕ)) (b : Bool) → bytes_eq m a ≡ b → (b || among m ms) ≡ true → (among m ms ≡ true → IsOnce m (first_occurrences ms))
    → IsOnce m (a ∷ without a (first_occurrences ms))
seen_at m a ms true is h rest = inl (is, subst (λ z. NoneIs m (without z (first_occurrences ms))) (same m a is) (gone m (first_occurrences ms)))
seen_at m a ms false is h rest = inr (is, once_filter m a (first_occurrences ms) (other m a is) (rest h))

pub seen : (m : List ℕ) (ms : List (List ℕ)) → among m ms ≡ true → IsOnce m (first_occurrences ms)
seen m [] h = absurd (let bad : ⊥ = cc h in bad)
seen m (a ∷ ms) h = seen_at m a ms (bytes_eq m a) refl h (seen m ms)

unseen_at : (m a : List ℕ) (ms : List (List ℕ)) (b : Bool) → bytes_eq m a ≡ b → (b || among m ms) ≡ false
    → (among m ms ≡ false → NoneIs m (first_occurrences ms)) → NoneIs m (a ∷ without a (first_occurrences ms))
unseen_at m a ms true is h rest = absurd (let bad : ⊥ = cc h in bad)
unseen_at m a ms false is h rest = (is, none_filter m a (first_occurrences ms) (rest h))

pub unseen : (m : List ℕ) (ms : List (List ℕ)) → among m ms ≡ false → NoneIs m (first_occurrences ms)
unseen m [] h = tt
unseen m (a ∷ ms) h = unseen_at m a ms (bytes_eq m a) refl h (unseen m ms)

more_in : (m a : List ℕ) (ms : List (List ℕ)) (b : Bool) → bytes_eq a m ≡ b
    → without a (first_occurrences ms ++ m ∷ []) ≡ without a (first_occurrences ms) ++ cond (not b) (m ∷ []) []
more_in m a ms b is =
    filter-append (λ k. not (bytes_eq a k)) (first_occurrences ms) (m ∷ []) ∙ ap (λ z. without a (first_occurrences ms) ++ cond (not z) (m ∷ []) []) is

-- the modules with one more after them
new_at : (m a : List ℕ) (ms : List (List ℕ)) (b : Bool) → bytes_eq m a ≡ b → (b || among m ms) ≡ false
    → (among m ms ≡ false → first_occurrences (ms ++ m ∷ []) ≡ first_occurrences ms ++ m ∷ [])
    → a ∷ without a (first_occurrences (ms ++ m ∷ [])) ≡ (a ∷ without a (first_occurrences ms)) ++ m ∷ []
new_at m a ms true is h rest = absurd (let bad : ⊥ = cc h in bad)
new_at m a ms false is h rest = ap (λ z. a ∷ z) (ap (without a) (rest h) ∙ more_in m a ms false (other m a is))

pub new_module : (m : List ℕ) (ms : List (List ℕ)) → among m ms ≡ false → first_occurrences (ms ++ m ∷ []) ≡ first_occurrences ms ++ m ∷ []
new_module m [] h = refl
new_module m (a ∷ ms) h = new_at m a ms (bytes_eq m a) refl h (new_module m ms)

append_nil : (ks : List (List ℕ)) → ks ++ [] ≡ ks
append_nil [] = refl
append_nil (k ∷ ks) = ap (λ z. k ∷ z) (append_nil ks)

old_here : (m a : List ℕ) (ms : List (List ℕ)) (c : Bool) → bytes_eq m a ≡ true → among m ms ≡ c
    → (among m ms ≡ true → first_occurrences (ms ++ m ∷ []) ≡ first_occurrences ms)
    → without a (first_occurrences (ms ++ m ∷ [])) ≡ without a (first_occurrences ms)
old_here m a ms true is c rest = ap (without a) (rest c)
old_here m a ms false is c rest =
    ap (without a) (new_module m ms c) ∙ (more_in m a ms true (ap (λ z. bytes_eq z m) (sym (same m a is)) ∙ self m)
    ∙ append_nil (without a (first_occurrences ms)))

old_at : (m a : List ℕ) (ms : List (List ℕ)) (b : Bool) → bytes_eq m a ≡ b → (b || among m ms) ≡ true
    → (among m ms ≡ true → first_occurrences (ms ++ m ∷ []) ≡ first_occurrences ms)
    → a ∷ without a (first_occurrences (ms ++ m ∷ [])) ≡ a ∷ without a (first_occurrences ms)
old_at m a ms true is h rest = ap (λ z. a ∷ z) (old_here m a ms (among m ms) is refl rest)
old_at m a ms false is h rest = ap (λ z. a ∷ without a z) (rest h)

pub old_module : (m : List ℕ) (ms : List (List ℕ)) → among m ms ≡ true → first_occurrences (ms ++ m ∷ []) ≡ first_occurrences ms
old_module m [] h = absurd (let bad : ⊥ = cc h in bad)
old_module m (a ∷ ms) h = old_at m a ms (bytes_eq m a) refl h (old_module m ms)

pub append_none : {X : Type 0} (ks : List X) → ks ++ [] ≡ ks
append_none [] = refl
append_none (k ∷ ks) = ap (λ z. k ∷ z) (append_none ks)

abbrev pub recorded : List Entry → List ℕ → List ℕ × InstanceRecord
recorded xs k = (k, instance_record xs k (filter_map (whole_of k) xs))

module _ (xs : List Entry) (m n : List ℕ) (i : ImportView) where
  abbrev more : List Entry
  more = xs ++ single m n i ∷ []

  wholes : (k : List ℕ) → filter_map (whole_of k) more ≡ filter_map (whole_of k) xs
  wholes k = filter_map-append (whole_of k) xs (single m n i ∷ []) ∙ append_none (filter_map (whole_of k) xs)

  singles_same : filter_map (single_of m) more ≡ filter_map (single_of m) xs ++ (n, i) ∷ []
  singles_same =
      filter_map-append (single_of m) xs (single m n i ∷ []) ∙ ap (λ b. filter_map (single_of m) xs ++ cons_option (cond b (Some (n, i)) None) []) (self m)

  singles_other : (k : List ℕ) → bytes_eq k m ≡ false → filter_map (single_of k) more ≡ filter_map (single_of k) xs
  singles_other k differ =
      filter_map-append (single_of k) xs (single m n i ∷ [])
      ∙ (ap (λ b. filter_map (single_of k) xs ++ cons_option (cond b (Some (n, i)) None) []) differ ∙ append_none (filter_map (single_of k) xs))

  others_at : (k : List ℕ) (ws : List WhichView) → bytes_eq k m ≡ false → instance_record more k ws ≡ instance_record xs k ws
  others_at k [] differ = ap names_of (singles_other k differ)
  others_at k (w ∷ ws) differ = refl

  others_stay : (k : List ℕ) → bytes_eq m k ≡ false → recorded more k ≡ recorded xs k
  others_stay k differ = ap (λ z. (k, z)) (ap (instance_record more k) (wholes k) ∙ others_at k (filter_map (whole_of k) xs) (other m k differ))

  one_more : filter_map (whole_of m) xs ≡ [] → instance_record more m (filter_map (whole_of m) more) ≡ add_to
      (instance_record xs m (filter_map (whole_of m) xs)) n i
  one_more none = ap (instance_record more m) (wholes m ∙ none) ∙ (ap names_of singles_same ∙ ap (λ z. add_to (instance_record xs m z) n i) (sym none))

  put_past : (ks : List (List ℕ)) → NoneIs m ks → put_in (map (recorded xs) ks) m n i ≡ map (recorded more) ks ++ (m, names_of ((n, i) ∷ [])) ∷ []
  put_past [] h = refl
  put_past (k ∷ ks) h =
      ap (λ b. cond b ((k, add_to (recorded xs k).1 n i) ∷ map (recorded xs) ks) (recorded xs k ∷ put_in (map (recorded xs) ks) m n i)) h.0
      ∙ (ap (λ z. z ∷ put_in (map (recorded xs) ks) m n i) (sym (others_stay k h.0)) ∙ ap (λ z. recorded more k ∷ z) (put_past ks h.1))

  stay : (ks : List (List ℕ)) → NoneIs m ks → map (recorded xs) ks ≡ map (recorded more) ks
  stay [] h = refl
  stay (k ∷ ks) h = ap (λ z. z ∷ map (recorded xs) ks) (sym (others_stay k h.0)) ∙ ap (λ z. recorded more k ∷ z) (stay ks h.1)

  put_once : (ks : List (List ℕ)) → filter_map (whole_of m) xs ≡ [] → IsOnce m ks → put_in (map (recorded xs) ks) m n i ≡ map (recorded more) ks
  put_once [] none h = absurd h
  put_once (k ∷ ks) none (inl h) =
      ap (λ b. cond b ((k, add_to (recorded xs k).1 n i) ∷ map (recorded xs) ks) (recorded xs k ∷ put_in (map (recorded xs) ks) m n i)) h.0
      ∙ (ap (λ z. (k, add_to (recorded xs k).1 n i) ∷ z) (stay ks h.1)
      ∙ ap (λ z. z ∷ map (recorded more) ks) (subst (λ z. (z, add_to (recorded xs z).1 n i) ≡ recorded more z) (same m k h.0)
      (ap (λ z. (m, z)) (sym (one_more none)))))
  put_once (k ∷ ks) none (inr h) =
      ap (λ b. cond b ((k, add_to (recorded xs k).1 n i) ∷ map (recorded xs) ks) (recorded xs k ∷ put_in (map (recorded xs) ks) m n i)) h.0
      ∙ (ap (λ z. z ∷ put_in (map (recorded xs) ks) m n i) (sym (others_stay k h.0)) ∙ ap (λ z. recorded more k ∷ z) (put_once ks none h.1))

-- a module that wasn't seen has no single imports
lone_at : (m k name : List ℕ) (v : ImportView) (b : Bool) (xs : List Entry) → bytes_eq m k ≡ b → (b || among m (map entry_module xs)) ≡ false
    → (among m (map entry_module xs) ≡ false → filter_map (single_of m) xs ≡ [])
    → filter_map (single_of m) (single k name v ∷ xs) ≡ []
lone_at m k name v true xs is h rest = absurd (let bad : ⊥ = cc h in bad)
lone_at m k name v false xs is h rest = ap (λ b. cons_option (cond b (Some (name, v)) None) (filter_map (single_of m) xs)) is ∙ rest h

whole_at : (m k : List ℕ) (b : Bool) (xs : List Entry) → (b || among m (map entry_module xs)) ≡ false
    → (among m (map entry_module xs) ≡ false → filter_map (single_of m) xs ≡ []) → filter_map (single_of m) xs ≡ []
whole_at m k true xs h rest = absurd (let bad : ⊥ = cc h in bad)
whole_at m k false xs h rest = rest h

lone : (m : List ℕ) (xs : List Entry) → among m (map entry_module xs) ≡ false → filter_map (single_of m) xs ≡ []
lone m [] h = refl
lone m (single k name v ∷ xs) h = lone_at m k name v (bytes_eq m k) xs refl h (lone m xs)
lone m (whole k w ∷ xs) h = whole_at m k (bytes_eq m k) xs h (lone m xs)

more_at : (xs : List Entry) (m n : List ℕ) (i : ImportView) (b : Bool) → among m (map entry_module xs) ≡ b → filter_map (whole_of m) xs ≡ []
    → map (recorded (more xs m n i)) (first_occurrences (map entry_module xs ++ m ∷ [])) ≡ put_in (by_modules xs) m n i
more_at xs m n i true is none =
    ap (map (recorded (more xs m n i))) (old_module m (map entry_module xs) is)
    ∙ sym (put_once xs m n i (first_occurrences (map entry_module xs)) none (seen m (map entry_module xs) is))
more_at xs m n i false is none =
    ap (map (recorded (more xs m n i))) (new_module m (map entry_module xs) is)
    ∙ (map-append (recorded (more xs m n i)) (first_occurrences (map entry_module xs)) (m ∷ [])
    ∙ (ap (λ z. map (recorded (more xs m n i)) (first_occurrences (map entry_module xs)) ++ (m, z) ∷ [])
    (one_more xs m n i none ∙ (ap (λ z. add_to (instance_record xs m z) n i) none ∙ ap (λ z. names_of (z ++ (n, i) ∷ [])) (lone m xs is)))
    ∙ sym (put_past xs m n i (first_occurrences (map entry_module xs)) (unseen m (map entry_module xs) is))))

-- a single import more, where nothing whole is recorded of its module, goes after the others of its module, or after all modules
pub recorded_more : (xs : List Entry) (m n : List ℕ) (i : ImportView) → filter_map (whole_of m) xs ≡ []
    → by_modules (xs ++ single m n i ∷ []) ≡ put_in (by_modules xs) m n i
recorded_more xs m n i none =
    ap (λ ms. map (recorded (more xs m n i)) (first_occurrences ms)) (map-append entry_module xs (single m n i ∷ []))
    ∙ more_at xs m n i (among m (map entry_module xs)) refl none

-- a module that wasn't seen is not all of another one
lone_whole_at : (m k : List ℕ) (w : WhichView) (b : Bool) (xs : List Entry) → bytes_eq m k ≡ b → (b || among m (map entry_module xs)) ≡ false
    → (among m (map entry_module xs) ≡ false → filter_map (whole_of m) xs ≡ [])
    → filter_map (whole_of m) (whole k w ∷ xs) ≡ []
lone_whole_at m k w true xs is h rest = absurd (let bad : ⊥ = cc h in bad)
lone_whole_at m k w false xs is h rest = ap (λ b. cons_option (cond b (Some w) None) (filter_map (whole_of m) xs)) is ∙ rest h

lone_single_at : (m k : List ℕ) (b : Bool) (xs : List Entry) → (b || among m (map entry_module xs)) ≡ false
    → (among m (map entry_module xs) ≡ false → filter_map (whole_of m) xs ≡ []) → filter_map (whole_of m) xs ≡ []
lone_single_at m k true xs h rest = absurd (let bad : ⊥ = cc h in bad)
lone_single_at m k false xs h rest = rest h

pub lone_whole : (m : List ℕ) (xs : List Entry) → among m (map entry_module xs) ≡ false → filter_map (whole_of m) xs ≡ []
lone_whole m [] h = refl
lone_whole m (single k name v ∷ xs) h = lone_single_at m k (bytes_eq m k) xs h (lone_whole m xs)
lone_whole m (whole k w ∷ xs) h = lone_whole_at m k w (bytes_eq m k) xs refl h (lone_whole m xs)

-- what is looked up of a module that was seen
pub found_once : (xs : List Entry) (m : List ℕ) (ks : List (List ℕ)) → IsOnce m ks
    → lookup (bytes_eq m) (map (recorded xs) ks) ≡ Some (instance_record xs m (filter_map (whole_of m) xs))
found_once xs m [] h = absurd h
found_once xs m (k ∷ ks) (inl h) =
    ap (λ b. cond b (Some (recorded xs k).1) (lookup (bytes_eq m) (map (recorded xs) ks))) h.0
    ∙ ap (λ z. Some (instance_record xs z (filter_map (whole_of z) xs))) (sym (same m k h.0))
found_once xs m (k ∷ ks) (inr h) =
    ap (λ b. cond b (Some (recorded xs k).1) (lookup (bytes_eq m) (map (recorded xs) ks))) h.0 ∙ found_once xs m ks h.1

no_whole_at : (xs : List Entry) (m : List ℕ) (ws : List WhichView) → ws ≡ filter_map (whole_of m) xs
    → lookup (bytes_eq m) (by_modules xs) ≡ Some (instance_record xs m ws) → ¬ IsAllRecorded (by_modules xs) m → ws ≡ []
no_whole_at xs m [] is found none = refl
no_whole_at xs m (w ∷ ws) is found none = absurd (none (w, found))

no_whole_in : (xs : List Entry) (m : List ℕ) (b : Bool) → among m (map entry_module xs) ≡ b → ¬ IsAllRecorded (by_modules xs) m
    → filter_map (whole_of m) xs ≡ []
no_whole_in xs m false is none = lone_whole m xs is
no_whole_in xs m true is none =
    no_whole_at xs m (filter_map (whole_of m) xs) refl (found_once xs m (first_occurrences (map entry_module xs)) (seen m (map entry_module xs) is)) none

-- one entry more, of a module that is not recorded as all of another one
pub recorded_after : (xs : List Entry) (m n : List ℕ) (i : ImportView) → ¬ IsAllRecorded (by_modules xs) m
    → by_modules (xs ++ single m n i ∷ []) ≡ put_in (by_modules xs) m n i
recorded_after xs m n i none = recorded_more xs m n i (no_whole_in xs m (among m (map entry_module xs)) refl none)

-- an import that was put into records is the last entry of them
pub entry_put : {T F : Type 0} (r : Result T F) (before : List Entry) (m n : List ℕ) (i : ImportView) (old new : Records) → old ≡ by_modules before
    → OnOk r (new ≡ put_in old m n i) → OnOk r (IsFree old m n)
    → OnOk r (new ≡ by_modules (before ++ single m n i ∷ []))
entry_put (Ok x) before m n i old new is put free =
    put ∙ (ap (λ z. put_in z m n i) is ∙ sym (recorded_after before m n i (subst (λ z. ¬ IsAllRecorded z m) is free.0)))
entry_put (Err f) before m n i old new is put free = tt
