-- Exports that are kept have names that are required.
use Rattle.std.proofs.Common.{◌≡◌, ◌≢◌, ℕ, zero, suc, ◌-◌, ◌<◌, ◌≤◌, List, [], ◌∷◌, length, set, get_or, refl, sym, ◌∙◌, ap, subst, Bool, true, false, not}
use Rattle.std.proofs.Common.{cond, Option, Some, None, ◌⊎◌, inl, inr, arith}
use Rattle.std.specs.Prelude.{All, AllPairs, Contains, filter, fold, nat_lt, position}
use Rattle.std.specs.List.{position_or_len, swap_remove}
use Rattle.std.specs.Option.{option_map_or}
use Rattle.std.specs.Str.{bytes_eq}
use Rattle.std.proofs.lemmas.Bool.{cases_lt, false≢true, ltb-false}
use Rattle.std.proofs.lemmas.Bool.Decides.{eqb_tells}
use Rattle.std.proofs.lemmas.List.{get_or-set_other, get_or-set_same, get_or-take, length-set, length-take-le, get_or_default}
use Rattle.std.proofs.lemmas.List.Elements.{All-contains, All-contains_itself, All-nil, All-weaker, Contains-append_right}
use Rattle.std.proofs.lemmas.List.Quantifiers.{position-Some}
use Rattle.std.proofs.lemmas.List.Sums.{fails_before_first}
use Rattle.std.proofs.lemmas.Map.Views.{Contains-from_any}
use Rattle.std.proofs.lemmas.Slice.Eq.{bytes_eq-Decides}
use Rattle.wc_read.specs.Exports.{ExportValue}
use Rattle.wc_gc.specs.Exports.{dropped_names, export_names, is_required, kept_exports, without}
use Rattle.wc_gc.proofs.ExportLemmas.{all_fold, all_kept}
use Rattle.wc_gc.proofs.KeptExportLemmas.{pairs_without}
use Rattle.wc_graph.proofs.ListLemmas.{contains_mapped}

abbrev HaveOtherNames : ExportValue → ExportValue → Type 0
HaveOtherNames x y = x.name ≢ y.name

-- none of a name is left, where one of distinct names is taken out

module _ (xs : List ExportValue) (i : ℕ) (d : ExportValue) (n : List ℕ) (pairs : AllPairs HaveOtherNames xs) (below : i < length xs)
    (is : (get_or xs i d).name ≡ n) where
  abbrev last : ℕ
  last = length xs - 1

  abbrev after : List ExportValue
  after = set xs i (get_or xs last d)

  here : (e : ExportValue) → (get_or xs i e).name ≡ n
  here e = ap (λ (x : ExportValue). x.name) (get_or_default xs i e d below) ∙ is

  other : (k : ℕ) (e : ExportValue) → k < length xs → k ≢ i → (get_or xs k e).name ≢ n
  other k e h differs same = elim (cases_lt k i) [
    | inl less ↦ pairs k i e less below (same ∙ sym (here e))
    | inr more ↦ pairs i k e (omega arith) h (here e ∙ sym same)
  ]

  removed_by : (k : ℕ) (e : ExportValue) → k < last → (k ≡ i) ⊎ (k ≢ i) → (get_or (swap_remove xs i d) k e).name ≢ n
  removed_by k e h (inl same) s =
      let read = get_or-take last after k e h
      ∙ (ap (λ j. get_or after j e) same ∙ (get_or-set_same xs i (get_or xs last d) e below ∙ get_or_default xs last d e (omega arith))) in
      other last e (omega arith) (λ j. let back : k ≡ last = same ∙ sym j in omega arith) (sym (ap (λ (x : ExportValue). x.name) read) ∙ s)
  removed_by k e h (inr differs) s =
      let read = get_or-take last after k e h ∙ get_or-set_other xs i k (get_or xs last d) e differs in
      other k e (omega arith) differs (sym (ap (λ (x : ExportValue). x.name) read) ∙ s)

  removed : All (λ y. y.name ≢ n) (swap_remove xs i d)
  removed k e h =
      let bounded = length-take-le last after (let l = length-set xs i (get_or xs last d) in omega (arith, l)) in
      removed_by k e (omega (arith, bounded, h)) (elim (eqb_tells k i) [ inl a ↦ inl a.1 | inr b ↦ inr b.1 ])

none_passes : (p : ExportValue → Bool) (xs : List ExportValue) → position p xs ≡ None → All (λ y. p y ≡ false) xs
none_passes p xs e k d h =
    let past = by (nat_lt (position_or_len p xs) (length xs)) refl e in
    fails_before_first p xs k d (omega (arith, past, h))
  where
    by : (b : Bool) → nat_lt (position_or_len p xs) (length xs) ≡ b → cond b (Some (position_or_len p xs)) None ≡ None → length xs ≤ position_or_len p xs
    by true l e = absurd cc
    by false l e = ltb-false (position_or_len p xs) (length xs) l

gone_or : (xs : List ExportValue) (d : ExportValue) (n : List ℕ) → AllPairs HaveOtherNames xs → (o : Option ℕ)
    → position (λ y. bytes_eq n y.name) xs ≡ o → All (λ y. y.name ≢ n) (option_map_or (λ i. swap_remove xs i d) o xs)
gone_or xs d n pairs None e =
    All-weaker (λ y. bytes_eq n y.name ≡ false) (λ y. y.name ≢ n) (λ y h same. false≢true (sym h ∙ (bytes_eq-Decides n y.name).1 (sym same))) xs
    (none_passes (λ y. bytes_eq n y.name) xs e)
gone_or xs d n pairs (Some i) e =
    let found = position-Some (λ (y : ExportValue). bytes_eq n y.name) xs i d e in
    removed xs i d n pairs found.0 (sym ((bytes_eq-Decides n (get_or xs i d).name).0 found.1))

gone : (es : List ExportValue) (n : List ℕ) → AllPairs HaveOtherNames es → All (λ y. y.name ≢ n) (without es n)
gone [] n pairs = All-nil (λ (y : ExportValue). y.name ≢ n)
gone (e ∷ es) n pairs = gone_or (e ∷ es) e n pairs (position (λ y. bytes_eq n y.name) (e ∷ es)) refl

flip : (a b : ExportValue) → HaveOtherNames a b → HaveOtherNames b a
flip a b h e = h (sym e)

gone_fold : (names : List (List ℕ)) (es : List ExportValue) (k : ℕ) (n : List ℕ) → AllPairs HaveOtherNames es → k < length names → get_or names k n ≡ n
    → All (λ y. y.name ≢ n) (fold without es names)
gone_fold [] es k n pairs h e = absurd (omega arith)
gone_fold (m ∷ names) es zero n pairs h e =
    all_fold (λ y. y.name ≢ n) (without es m) names (subst (λ z. All (λ y. y.name ≢ z) (without es m)) e (gone es m pairs))
gone_fold (m ∷ names) es (suc k) n pairs h e = gone_fold names (without es m) k n (pairs_without HaveOtherNames flip es m pairs) (omega arith) e

pub more_there : {A : Type 0} (y x : A) (ys : List A) → Contains ys x → (b : Bool) → Contains (cond b (y ∷ ys) ys) x
more_there y x ys c true = Contains-append_right (y ∷ []) ys x c
more_there y x ys c false = c

passing_there : {A : Type 0} (p : A → Bool) (xs : List A) (k : ℕ) (x : A) → k < length xs → get_or xs k x ≡ x → p x ≡ true → Contains (filter p xs) x
passing_there p [] k x h e t = absurd (omega arith)
passing_there p (y ∷ xs) zero x h e t =
    subst (λ b. Contains (cond b (y ∷ filter p xs) (filter p xs)) x) (sym (ap p e ∙ t)) (0, omega arith, e)
passing_there p (y ∷ xs) (suc k) x h e t = more_there y x (filter p xs) (passing_there p xs k x (omega arith) e t) (p y)

pub kept_required : (required : List (List ℕ)) (es : List ExportValue) → AllPairs HaveOtherNames es → (y : ExportValue)
    → Contains (kept_exports required es) y → Contains required y.name
kept_required required es pairs y c = by (is_required required y.name) refl
  where
    by : (b : Bool) → is_required required y.name ≡ b → Contains required y.name
    by true h = Contains-from_any (λ a b e. (bytes_eq-Decides a b).0 e) y.name required h
    by false h =
        let old = All-contains (Contains es) (kept_exports required es) y (all_kept (Contains es) required es (All-contains_itself es)) c in
        let named = contains_mapped (λ (e : ExportValue). e.name) es y old in
        let dropped = passing_there (λ n. not (is_required required n)) (export_names es) named.0 y.name named.1 named.2 (ap not h) in
        absurd (All-contains (λ z. z.name ≢ y.name) (kept_exports required es) y
        (gone_fold (dropped_names required es) es dropped.0 y.name pairs dropped.1 dropped.2) c refl)
