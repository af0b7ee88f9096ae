-- The laws of the renaming.
use Rattle.std.proofs.Common.{◌≡◌, ℕ, ◌<◌, ◌⊎◌, List, [], ◌∷◌, ◌++◌, inl, inr, refl, sym, ap, subst, ◌∙◌, arith}
use Rattle.std.specs.List.{Contains}
use Rattle.std.proofs.lemmas.Bool.{cases_order}
use Rattle.std.proofs.lemmas.List.Elements.{Contains-append_left, Contains-append_right, Contains-append_cases, Contains-push, Contains-push_cases}
use Rattle.wc_dedupe.specs.Laws.{AreDistinct}
use Rattle.wc_dedupe.specs.Renaming.{ImportName, name_with_number, IsGiven, IsLeastNumberedName, IsNameFor, NamesOne, Renamed}

none_in_nil : (x : ImportName) → Contains [] x → ⊥
none_in_nil x c = absurd (omega (arith, c.1))

pub Contains-cons_cases : (n : ImportName) (ns : List ImportName) (x : ImportName) → Contains (n ∷ ns) x → (n ≡ x) ⊎ Contains ns x
Contains-cons_cases n ns x c =
    elim (Contains-append_cases (n ∷ []) ns x c) [
      | inl first ↦ elim (Contains-push_cases [] n x first) [ inl none ↦ absurd (none_in_nil x none) | inr same ↦ inl same ]
      | inr later ↦ inr later
    ]

pub Contains-here : (n : ImportName) (ns : List ImportName) → Contains (n ∷ ns) n
Contains-here n ns = Contains-append_left (n ∷ []) ns n (Contains-push [] n)

pub Contains-later : (n : ImportName) (ns : List ImportName) (x : ImportName) → Contains ns x → Contains (n ∷ ns) x
Contains-later n ns x c = Contains-append_right (n ∷ []) ns x c

-- the name of an import is not the name of one before it
not_given : (given : List ImportName) (s n : ImportName) → NamesOne given s n → Contains given n → ⊥
not_given given s n one there =
    let in_module : IsGiven given s.module_name n.name = subst (λ (m : List ℕ). Contains given (record { module_name = m; name = n.name })) one.0 there in
    elim one.1 [
      | inl free ↦ free.0 (subst (λ (q : List ℕ). IsGiven given s.module_name q) free.1 in_module)
      | inr taken ↦ taken.1.free in_module
    ]

fresh : (given ss ns : List ImportName) → Renamed given ss ns → (x : ImportName) → Contains ns x → Contains given x → ⊥
fresh given [] ns r x here before = none_in_nil x (subst (λ (l : List ImportName). Contains l x) r here)
fresh given (s ∷ ss) [] r x here before = absurd r
fresh given (s ∷ ss) (n ∷ ns) r x here before =
    elim (Contains-cons_cases n ns x here) [
      | inl same ↦ not_given given s n r.0 (subst (λ (y : ImportName). Contains given y) (sym same) before)
      | inr later ↦ fresh (given ++ n ∷ []) ss ns r.1 x later (Contains-append_left given (n ∷ []) x before)
    ]

pub names_are_distinct : (given ss ns : List ImportName) → Renamed given ss ns → AreDistinct ns
names_are_distinct given [] ns r = subst AreDistinct (sym r) tt
names_are_distinct given (s ∷ ss) [] r = absurd r
names_are_distinct given (s ∷ ss) (n ∷ ns) r = (λ again. fresh (given ++ n ∷ []) ss ns r.1 n again (Contains-push given n), names_are_distinct (given ++ n ∷ []) ss ns r.1)

name_with_number_once : (P : List ℕ → Type 0) (s a b : List ℕ) (x : IsLeastNumberedName P s a) (y : IsLeastNumberedName P s b) → x.number < y.number → ⊥
name_with_number_once P s a b x y less = x.free (subst P (sym x.spelled) (y.least x.number x.from_two less))

name_once : (P : List ℕ → Type 0) (s a b : List ℕ) → IsNameFor P s a → IsNameFor P s b → a ≡ b
name_once P s a b (inl x) (inl y) = x.1 ∙ sym y.1
name_once P s a b (inl x) (inr y) = absurd (x.0 y.0)
name_once P s a b (inr x) (inl y) = absurd (y.0 x.0)
name_once P s a b (inr x) (inr y) =
    elim (cases_order x.1.number y.1.number) [
      | inl same ↦ x.1.spelled ∙ ap (λ (k : ℕ). name_with_number s k) same ∙ sym y.1.spelled
      | inr distinct ↦ elim distinct [ inl less ↦ absurd (name_with_number_once P s a b x.1 y.1 less) | inr more ↦ absurd (name_with_number_once P s b a y.1 x.1 more) ]
    ]

one_once : (given : List ImportName) (s a b : ImportName) → NamesOne given s a → NamesOne given s b → a ≡ b
one_once given s a b x y =
    let modules : a.module_name ≡ b.module_name = x.0 ∙ sym y.0 in
    let names : a.name ≡ b.name = name_once (IsGiven given s.module_name) s.name a.name b.name x.1 y.1 in
    joined a b modules names
  where
    joined : (a b : ImportName) → a.module_name ≡ b.module_name → a.name ≡ b.name → a ≡ b
    joined a b e f = ap (λ (m : List ℕ). record { module_name = m; name = a.name }) e ∙ ap (λ (q : List ℕ). record { module_name = b.module_name; name = q }) f

pub names_are_determined : (given ss ns ms : List ImportName) → Renamed given ss ns → Renamed given ss ms → ns ≡ ms
names_are_determined given [] ns ms r q = r ∙ sym q
names_are_determined given (s ∷ ss) [] ms r q = absurd r
names_are_determined given (s ∷ ss) (n ∷ ns) [] r q = absurd q
names_are_determined given (s ∷ ss) (n ∷ ns) (m ∷ ms) r q =
    let same : n ≡ m = one_once given s n m r.0 q.0 in
    let rest : ns ≡ ms = names_are_determined (given ++ m ∷ []) ss ns ms (subst (λ (x : ImportName). Renamed (given ++ x ∷ []) ss ns) same r.1) q.1 in
    ap (λ (x : ImportName). x ∷ ns) same ∙ ap (λ (xs : List ImportName). m ∷ xs) rest

pub names_are_kept : (given ss ns : List ImportName) → Renamed given ss ns → AreDistinct ss → ((x : ImportName) → Contains ss x → Contains given x → ⊥) → ns ≡ ss
names_are_kept given [] ns r distinct new = r
names_are_kept given (s ∷ ss) [] r distinct new = absurd r
names_are_kept given (s ∷ ss) (n ∷ ns) r distinct new =
    let same : n ≡ s = one_once given s n s r.0 (refl, inl (new s (Contains-here s ss), refl)) in
    let rest : ns ≡ ss = names_are_kept (given ++ s ∷ []) ss ns (subst (λ (x : ImportName). Renamed (given ++ x ∷ []) ss ns) same r.1) distinct.1
    (λ x there before. elim (Contains-push_cases given s x before) [
      | inl earlier ↦ new x (Contains-later s ss x there) earlier
      | inr here ↦ distinct.0 (subst (λ (y : ImportName). Contains ss y) (sym here) there)
    ]) in
    ap (λ (x : ImportName). x ∷ ns) same ∙ ap (λ (xs : List ImportName). s ∷ xs) rest
