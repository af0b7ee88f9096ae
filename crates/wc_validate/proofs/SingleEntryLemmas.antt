-- Entries that are all single imports: what is recorded of them by modules, and that no two of them can't stand together.
use Rattle.std.proofs.Common.{◌≡◌, ◌⊎◌, ℕ, Bool, true, false, ◌||◌, ◌&&◌, cond, List, [], ◌∷◌, ◌++◌, map, All, Contains, Option, Some, None, refl, sym, ap, subst, ◌∙◌, inl, inr}
use Rattle.std.specs.List.{filter_map}
use Rattle.std.specs.Map.{lookup}
use Rattle.std.specs.Str.{bytes_eq}
use Rattle.std.proofs.lemmas.List.Elements.{All-contains, All-head, All-tail, Contains-push_cases}
use Rattle.wc_read.specs.declared.types.MemoryType.{MemoryType}
use Rattle.wc_read.specs.Types.{FuncTypeValue}
use Rattle.wc_maps.proofs.ListLemmas.{contains_cons, contains_none}
use Rattle.wc_adapters.specs.Adapters.{WhichView}
use Rattle.wc_names.specs.Views.{ImportView, adapter_export, main_module_memory}
use Rattle.wc_validate.specs.declared.fault.ValidateFault.TheVariants.{AdapterTypesDiffer, DuplicateImport, SeveralMemoryImports}
use Rattle.wc_validate.specs.Imports.AdapterTypes.{first_some}
use Rattle.wc_validate.specs.Imports.Entries.{Entry, single, whole, InstanceRecord, IsAllRecorded, IsNameRecorded, adapter_type_in, adapter_type_of, all_of, by_modules, entry_module, first_by, instance_record, memory_of, memory_type_of, names_of, single_of, whole_of}
use Rattle.wc_texts.specs.Names.{first_occurrences}
use Rattle.wc_validate.specs.Imports.Map.{imports_in, singles_of}
use Rattle.wc_validate.specs.Imports.Record.{IsValidAfter}
use Rattle.wc_validate.proofs.ContainedLemmas.{all_by, first_there, flat_there, found_there, kept_from, kept_there, looked_up, mapped_there, some_same}
use Rattle.wc_validate.proofs.IndexLemmas.{first_by_push}
use Rattle.wc_validate.proofs.RecordLawLemmas.{OnImport, OnSingle, by_modules_all}
use Rattle.wc_validate.proofs.InstanceLemmas.{among, found_once, recorded, same, seen, self}

abbrev pub IsSingle : Entry → Type 0
IsSingle (single m name i) = Unit {0}
IsSingle (whole m which) = ⊥

no_whole : (m : List ℕ) (xs : List Entry) → All IsSingle xs → filter_map (whole_of m) xs ≡ []
no_whole m [] h = refl
no_whole m (single k name v ∷ xs) h = no_whole m xs (All-tail IsSingle (single k name v) xs h)
no_whole m (whole k w ∷ xs) h = absurd (All-head IsSingle (whole k w) xs h)

not_all_at : (xs : List Entry) (k : List ℕ) (ws : List WhichView) (which : WhichView) (b : Bool) (rest : Option InstanceRecord) → ws ≡ []
    → cond b (Some (instance_record xs k ws)) rest ≡ Some (all_of which)
    → ¬ (rest ≡ Some (all_of which)) → ⊥
not_all_at xs k [] which true rest none h later = let bad : ⊥ = cc h in bad
not_all_at xs k (w ∷ ws) which true rest none h later = let bad : ⊥ = cc none in bad
not_all_at xs k ws which false rest none h later = later h

same_names : {p q : List (List ℕ × ImportView)} → Some (names_of p) ≡ Some (names_of q) → q ≡ p
same_names e = cc e

names_at : (xs : List Entry) (m k : List ℕ) (ws : List WhichView) (names : List (List ℕ × ImportView)) (b : Bool) (rest : Option InstanceRecord)
    → bytes_eq m k ≡ b → ws ≡ []
    → cond b (Some (instance_record xs k ws)) rest ≡ Some (names_of names) → (rest ≡ Some (names_of names) → names ≡ filter_map (single_of m) xs)
    → names ≡ filter_map (single_of m) xs
names_at xs m k [] names true rest is none h later = same_names h ∙ ap (λ z. filter_map (single_of z) xs) (sym (same m k is))
names_at xs m k (w ∷ ws) names true rest is none h later = absurd (let bad : ⊥ = cc none in bad)
names_at xs m k ws names false rest is none h later = later h

single_at : (m n : List ℕ) (i : ImportView) (k name : List ℕ) (v : ImportView) (b : Bool) → bytes_eq m k ≡ b
    → cond {A = Option (List ℕ × ImportView)} b (Some (name, v)) None ≡ Some (n, i) → single k name v ≡ single m n i
single_at m n i k name v true is h =
    let both : (name, v) ≡ (n, i) = some_same h in
    let name_same : name ≡ n = ap (λ (z : List ℕ × ImportView). z.0) both in
    let import_same : v ≡ i = ap (λ (z : List ℕ × ImportView). z.1) both in
    ap (λ z. single z name v) (sym (same m k is)) ∙ (ap (λ z. single m z v) name_same ∙ ap (single m n) import_same)
single_at m n i k name v false is h = absurd (let bad : ⊥ = cc h in bad)

single_is : (m n : List ℕ) (i : ImportView) (x : Entry) → single_of m x ≡ Some (n, i) → x ≡ single m n i
single_is m n i (single k name v) h = single_at m n i k name v (bytes_eq m k) refl h
single_is m n i (whole k w) h = absurd (let bad : ⊥ = cc h in bad)

either_true : (b r : Bool) → (b ≡ true) ⊎ (r ≡ true) → (b || r) ≡ true
either_true true r h = refl
either_true false r (inl h) = absurd (let bad : ⊥ = cc h in bad)
either_true false r (inr h) = h

among_there : (m n : List ℕ) (i : ImportView) (xs : List Entry) → Contains xs (single m n i) → among m (map entry_module xs) ≡ true
among_there m n i [] h = absurd (contains_none (single m n i) h)
among_there m n i (x ∷ xs) h = elim (contains_cons x xs (single m n i) h) [
  | inl is ↦ either_true (bytes_eq m (entry_module x)) (among m (map entry_module xs)) (inl (ap (λ z. bytes_eq m (entry_module z)) is ∙ self m))
  | inr later ↦ either_true (bytes_eq m (entry_module x)) (among m (map entry_module xs)) (inr (among_there m n i xs later))
]

module _ (xs : List Entry) (singles : All IsSingle xs) where
  not_all_in : (m : List ℕ) (ks : List (List ℕ)) (which : WhichView) → ¬ (lookup (bytes_eq m) (map (recorded xs) ks) ≡ Some (all_of which))
  not_all_in m [] which h = let bad : ⊥ = cc h in bad
  not_all_in m (k ∷ ks) which h =
      not_all_at xs k (filter_map (whole_of k) xs) which (bytes_eq m k) (lookup (bytes_eq m) (map (recorded xs) ks)) (no_whole k xs singles) h
      (not_all_in m ks which)

  -- no module is all of another one
  pub not_all : (m : List ℕ) → ¬ IsAllRecorded (by_modules xs) m
  not_all m h = not_all_in m (first_occurrences (map entry_module xs)) h.0 h.1

  names_in : (m : List ℕ) (ks : List (List ℕ)) (names : List (List ℕ × ImportView)) → lookup (bytes_eq m) (map (recorded xs) ks) ≡ Some (names_of names)
      → names ≡ filter_map (single_of m) xs
  names_in m [] names h = absurd (let bad : ⊥ = cc h in bad)
  names_in m (k ∷ ks) names h =
      names_at xs m k (filter_map (whole_of k) xs) names (bytes_eq m k) (lookup (bytes_eq m) (map (recorded xs) ks)) refl (no_whole k xs singles) h
      (names_in m ks names)

  -- a name is recorded where it is an entry's
  pub name_from : (m n : List ℕ) → IsNameRecorded (by_modules xs) m n → (i : ImportView) × Contains xs (single m n i)
  name_from m n h =
      let names : h.0 ≡ filter_map (single_of m) xs = names_in m (first_occurrences (map entry_module xs)) h.0 h.2 in
      let there : Contains (filter_map (single_of m) xs) (n, h.1) = subst (λ z. Contains z (n, h.1)) names (found_there n h.0 h.1 h.3) in
      let from = kept_from (single_of m) xs (n, h.1) there in
      (h.1, subst (Contains xs) (single_is m n h.1 from.0 from.2) from.1)

  -- single imports of a module are recorded in their order
  pub names_recorded : (m n : List ℕ) (i : ImportView) → Contains xs (single m n i)
      → lookup (bytes_eq m) (by_modules xs) ≡ Some (names_of (filter_map (single_of m) xs))
  names_recorded m n i there =
      found_once xs m (first_occurrences (map entry_module xs)) (seen m (map entry_module xs) (among_there m n i xs there))
      ∙ ap (λ ws. Some (instance_record xs m ws)) (no_whole m xs singles)

  pub name_kept : (m n : List ℕ) (i : ImportView) → Contains xs (single m n i) → Contains (filter_map (single_of m) xs) (n, i)
  name_kept m n i there = kept_there (single_of m) xs (single m n i) (n, i) there (ap (λ b. cond b (Some (n, i)) None) (self m))

  pub name_there : (m n : List ℕ) (i : ImportView) → Contains xs (single m n i) → IsNameRecorded (by_modules xs) m n
  name_there m n i there =
      let looked = looked_up n (filter_map (single_of m) xs) i (name_kept m n i there) in
      (filter_map (single_of m) xs, looked.0, names_recorded m n i there, looked.1)

  abbrev IsThere : List ℕ → List ℕ → ImportView → Type 0
  IsThere m n i = Contains xs (single m n i)

  single_there : (x : Entry) → Contains xs x → OnSingle IsThere x
  single_there (single m n i) h = h
  single_there (whole m w) h = tt

  -- what is recorded is an entry
  pub recorded_from : (x : List ℕ × (List ℕ × ImportView)) → Contains (imports_in (by_modules xs)) x → Contains xs (single x.0 x.1.0 x.1.1)
  recorded_from x there =
      All-contains (OnImport IsThere) (imports_in (by_modules xs)) x (by_modules_all IsThere xs (all_by (OnSingle IsThere) xs single_there)) there

  pub recorded_there : (m n : List ℕ) (i : ImportView) → Contains xs (single m n i) → Contains (imports_in (by_modules xs)) (m, (n, i))
  recorded_there m n i there =
      let names = filter_map (single_of m) xs in
      flat_there singles_of (by_modules xs) (m, names_of names) (m, (n, i)) (found_there m (by_modules xs) (names_of names) (names_recorded m n i there))
      (mapped_there (λ (x : List ℕ × ImportView). (m, x)) names (n, i) (name_kept m n i there))

-- what imports these are
pub memory_is : (i : ImportView) (ty : MemoryType) → memory_type_of i ≡ Some ty → i ≡ main_module_memory ty
memory_is (main_module_memory t) ty h = ap main_module_memory (some_same h)
memory_is i ty h = absurd (let bad : ⊥ = cc h in bad)

adapter_at : (a f b g : List ℕ) (t ty : FuncTypeValue) (p q : Bool) → bytes_eq a b ≡ p → bytes_eq f g ≡ q → cond (p && q) (Some t) None ≡ Some ty
    → adapter_export b g t ≡ adapter_export a f ty
adapter_at a f b g t ty true true p q h =
    ap (λ z. adapter_export z g t) (sym (same a b p)) ∙ (ap (λ z. adapter_export a z t) (sym (same f g q)) ∙ ap (adapter_export a f) (some_same h))
adapter_at a f b g t ty true false p q h = absurd (let bad : ⊥ = cc h in bad)
adapter_at a f b g t ty false r p q h = absurd (let bad : ⊥ = cc h in bad)

adapter_is : (a f : List ℕ) (i : ImportView) (ty : FuncTypeValue) → adapter_type_in a f i ≡ Some ty → i ≡ adapter_export a f ty
adapter_is a f (adapter_export b g t) ty h = adapter_at a f b g t ty (bytes_eq a b) (bytes_eq f g) refl refl h
adapter_is a f i ty h = absurd (let bad : ⊥ = cc h in bad)

pub adapter_self : (a f : List ℕ) (ty : FuncTypeValue) → adapter_type_in a f (adapter_export a f ty) ≡ Some ty
adapter_self a f ty = ap (λ b. cond (b && bytes_eq f f) (Some ty) None) (self a) ∙ ap (λ b. cond b (Some ty) None) (self f)

-- two entries can stand together: they are not both a memory, have not both one name, and are not one function of an
-- adapter with two types
pub record AreCompatible (x y : Entry) : Type 0 where
  pub memories : (t u : MemoryType) → memory_of x ≡ Some t → memory_of y ≡ Some u → ⊥
  pub names : (m n : List ℕ) (i k : ImportView) → x ≡ single m n i → y ≡ single m n k → ⊥
  pub types : (a f : List ℕ) (t u : FuncTypeValue) → adapter_type_of a f x ≡ Some t → adapter_type_of a f y ≡ Some u → ¬ (¬ (t ≡ u))

pub swapped : (x y : Entry) → AreCompatible x y → AreCompatible y x
swapped x y c = record {
  memories = λ t u p q. c.memories u t q p;
  names = λ m n i k p q. c.names m n k i q p;
  types = λ a f t u p q differ. c.types a f u t q p (λ e. differ (sym e));
}

-- the first entry of a function of an adapter has its type in all
abbrev pub AgreesWithFirst : List Entry → Type 0
AgreesWithFirst xs = (a f : List ℕ) (y : Entry) (t u : FuncTypeValue) → Contains xs y → adapter_type_of a f y ≡ Some t
    → first_by (adapter_type_of a f) xs ≡ Some u → ¬ (¬ (t ≡ u))

pub agrees_none : AgreesWithFirst []
agrees_none a f y t u there type first differ = contains_none y there

module _ (before : List Entry) (x : Entry) (agrees : AgreesWithFirst before) (one : IsSingle x) (valid : IsValidAfter before x) where
  valid_type : (a f : List ℕ) (t u : FuncTypeValue) → adapter_type_of a f x ≡ Some t → first_by (adapter_type_of a f) before ≡ Some u → ¬ (¬ (t ≡ u))
  valid_type a f t u type first differ = at x one valid type where
    at : (z : Entry) → IsSingle z → IsValidAfter before z → adapter_type_of a f z ≡ Some t → ⊥
    at (single m n i) h is own = is AdapterTypesDiffer (a, f, t, u, adapter_is a f i t own, first, differ)
    at (whole m w) h is own = h

  agrees_at : (a f : List ℕ) (y : Entry) (t u : FuncTypeValue) (o : Option FuncTypeValue) → first_by (adapter_type_of a f) before ≡ o → Contains before y
      ⊎ (x ≡ y) → adapter_type_of a f y ≡ Some t
      → first_some o (adapter_type_of a f x) ≡ Some u → ¬ (¬ (t ≡ u))
  agrees_at a f y t u (Some w) is (inl there) type first differ = agrees a f y t u there type (is ∙ first) differ
  agrees_at a f y t u (Some w) is (inr e) type first differ = valid_type a f t u (ap (adapter_type_of a f) e ∙ type) (is ∙ first) differ
  agrees_at a f y t u None is (inl there) type first differ =
      let found = first_there (adapter_type_of a f) before y t there type in let both : None ≡ Some found.0 = sym is ∙ found.1 in let bad : ⊥ = cc both in bad
  agrees_at a f y t u None is (inr e) type first differ = differ (some_same (sym type ∙ (ap (adapter_type_of a f) (sym e) ∙ first)))

  pub agrees_more : AgreesWithFirst (before ++ x ∷ [])
  agrees_more a f y t u there type first differ =
      agrees_at a f y t u (first_by (adapter_type_of a f) before) refl (Contains-push_cases before x y there) type
      (sym (first_by_push (adapter_type_of a f) before x) ∙ first) differ

-- a valid entry can stand with each before it
pub valid_compatible : (before : List Entry) (x y : Entry) → All IsSingle before → AgreesWithFirst before → IsSingle x → IsValidAfter before x
    → Contains before y
    → AreCompatible y x
valid_compatible before (single m n i) y singles agrees one valid there = record {
  memories = λ t u p q. (let found = first_there memory_of before y t there p in valid SeveralMemoryImports (u, found.0, memory_is i u q, found.1));
  names = λ k l v w p q.
      (let modules : k ≡ m = cc q in
      let names : l ≡ n = cc q in
      let is : y ≡ single m n v = p ∙ (ap (λ z. single z l v) modules ∙ ap (λ z. single m z v) names) in
      valid DuplicateImport (name_there before singles m n v (subst (Contains before) is there)));
  types = λ a f t u p q differ.
      (let found = first_there (adapter_type_of a f) before y t there p in
      agrees a f y t found.0 there p found.1 (λ e. valid_type before (single m n i) agrees one valid a f u found.0 q found.1 (λ g. differ (e ∙ sym g))));
}
valid_compatible before (whole m w) y singles agrees one valid there = absurd one
