-- The exports of a module that restricts another: the same are recorded, and what is required is there.
use Rattle.std.proofs.Common.{◌≡◌, ◌≢◌, ◌⊎◌, ℕ, ◌+◌, ◌<◌, ◌≤◌, Bool, true, false, not, ◌||◌, cond, IsTrue, List, [], ◌∷◌, ◌++◌, map, All, Contains, Option, Some, None, refl, sym, ap, subst, ◌∙◌, inl, inr, arith}
use Rattle.std.specs.List.{filter_map}
use Rattle.std.specs.Map.{lookup}
use Rattle.std.specs.Option.{option_and_then, option_map, option_map_or}
use Rattle.std.specs.Str.{bytes_eq}
use Rattle.std.proofs.lemmas.List.Elements.{All-append, All-cons, All-contains, All-head, All-map, All-tail, All-weaker, Contains-append_cases, Contains-append_left, Contains-append_right}
use Rattle.std.proofs.lemmas.List.Kept.{AllPairs-cons}
use Rattle.wc_read.specs.Types.{FuncTypeValue, names_types}
use Rattle.wc_maps.proofs.ListLemmas.{contains_cons, contains_head, contains_none, contains_tail}
use Rattle.wc_resolve.specs.Views.{FunctionView, ItemView, KeyView, function_item, interface_item}
use Rattle.wc_resolve.specs.Kinds.{ResolveView}
use Rattle.wc_maps.proofs.PairLemmas.{pairs_head, pairs_none, pairs_tail}
use Rattle.wc_adapters.specs.Entries.{Entries}
use Rattle.wc_names.specs.SameButIndices.{AreSameButIndices}
use Rattle.wc_names.specs.Exports.{CoreExport, ExportMeaning, is_export}
use Rattle.wc_names.specs.ExportViews.{ExportView}
use Rattle.wc_names.specs.Imports.{ExternType, NameScope, func_type, global_type, memory_type, table_type}
use Rattle.wc_names.specs.Laws.{ExportsUnique}
use Rattle.wc_names.specs.Keys.{item_under}
use Rattle.wc_names.proofs.SameExportLemmas.{IsPlainType, export_kept, fixed_export_plain}
use Rattle.wc_names.proofs.SameButIndicesLemmas.{of_same_fixed}
use Rattle.wc_validate.specs.declared.fault.ValidateFault.{ValidateFault}
use Rattle.wc_validate.specs.declared.fault.ValidateFault.TheVariants.{Memory, SignatureMismatch}
use Rattle.wc_validate.specs.Exports.Map.{ExportRecord, is_memory}
use Rattle.wc_validate.specs.Exports.Record.{AreExports, HasMismatch, IsExportEntry, IsExportsFault, IsMismatched, entry_of}
use Rattle.wc_validate.specs.Requirements.{AreMet, IsFirstUnmet, IsMet, IsUnmetFault, Requirement, as_function_type, callback_name, callbacks, function_name, function_names, functions_of, interface_functions, is_callback_for, is_called_back, item_requirement, key_requirement, key_requirements, memory_count, needs_callback, one_memory, requirements, type_requirement, typed_function, typed_name, world_function}
use Rattle.wc_validate.specs.Imports.Classify.{HasSignature}
use Rattle.wc_validate.proofs.DistinctNameLemmas.{HaveDistinctNames, distinct_kept, lookup_one, same_lookups}
use Rattle.wc_validate.proofs.ContainedLemmas.{all_by, found_there, kept_from, kept_there, none_some, some_same}
use Rattle.wc_validate.proofs.LawLemmas.{same_entries}
use Rattle.wc_validate.proofs.MissingLemmas.{no_unmet}
use Rattle.wc_validate.proofs.RequirementLemmas.{at_most_one}

-- the entry of what is recorded
entry_in : (name : List ℕ) (o : Option ExportView) (y : List ℕ × ExportView) → Contains (entry_of name o) y → (name ≡ y.0) × (o ≡ Some y.1)
entry_in name None y there = absurd (contains_none y there)
entry_in name (Some v) y there = elim (contains_cons (name, v) [] y there) [
  | inl is ↦ (ap (λ (z : List ℕ × ExportView). z.0) is, ap (λ (z : List ℕ × ExportView). Some z.1) is)
  | inr none ↦ absurd (contains_none y none)
]

entry_there : (name : List ℕ) (o : Option ExportView) (v : ExportView) → o ≡ Some v → Contains (entry_of name o) (name, v)
entry_there name o v is = subst (λ z. Contains (entry_of name z) (name, v)) (sym is) (contains_head [] (name, v))

-- an export of this name, and of the same type but for indices, is there
abbrev pub HasSameButIndices : List CoreExport → CoreExport → Type 0
HasSameButIndices xs y = (x : CoreExport) × Contains xs x × (x.name ≡ y.name) × AreSameButIndices x.ty y.ty

renamed : (x : CoreExport) (name : List ℕ) → x.name ≡ name → x ≡ record { name = name; ty = x.ty }
renamed x name is = λ k. record { name = is k; ty = x.ty }

signature_kept : (t u : ExternType) (required_type : Option FuncTypeValue) → AreSameButIndices t u → IsPlainType required_type → HasSignature t required_type
    → HasSignature u required_type
signature_kept t u None but_indices plain signed = tt
signature_kept t u (Some w) but_indices plain signed = of_same_fixed t u w but_indices signed plain

module _ (s : NameScope) (keys : List KeyView) where
  -- exports that are the same but for type indices are recorded as one export
  kept_type : (name : List ℕ) (t u : ExternType) (o : Option ExportView) → AreSameButIndices t u → IsExportEntry s keys (record { name = name; ty = t }) o
      → IsExportEntry s keys (record { name = name; ty = u }) o
  unfolding IsExportEntry
  kept_type name t u None but_indices h = λ m c. h m (export_kept s keys name u t m (sym but_indices) c)
  kept_type name t u (Some v) but_indices h = (
    h.0,
    export_kept s keys name t u (is_export v h.0) but_indices h.1,
    signature_kept t u h.0 but_indices
        (fixed_export_plain s keys (record { name = name; ty = t }) (is_export v h.0) h.1) h.2,
  )

  entry_kept : (x y : CoreExport) (o : Option ExportView) → x.name ≡ y.name → AreSameButIndices x.ty y.ty → IsExportEntry s keys x o → IsExportEntry s keys y o
  entry_kept x y o same but_indices h =
      kept_type y.name x.ty y.ty o but_indices (subst (λ (z : CoreExport). IsExportEntry s keys z o) (renamed x y.name same) h)

  -- what is recorded is recorded of an export
  recorded_from : (xs : List CoreExport) (recorded : ExportRecord) (y : List ℕ × ExportView) → AreExports s keys xs recorded → Contains recorded y
      → (x : CoreExport) × Contains xs x × (x.name ≡ y.0) × IsExportEntry s keys x (Some y.1)
  recorded_from [] recorded y h there = absurd (contains_none y (subst (λ z. Contains z y) h there))
  recorded_from (x ∷ xs) recorded y h there = elim (Contains-append_cases (entry_of x.name h.0) h.1 y (subst (λ z. Contains z y) h.4 there)) [
    | inl here ↦ (let is = entry_in x.name h.0 y here in (x, contains_head xs x, is.0, subst (IsExportEntry s keys x) is.1 h.2))
    | inr later ↦ (let from = recorded_from xs h.1 y h.3 later in (from.0, contains_tail x xs from.0 from.1, from.2, from.3))
  ]

  abbrev RecordedAs : CoreExport → ExportRecord → Type 0
  RecordedAs x recorded = (o : Option ExportView) × IsExportEntry s keys x o × ((v : ExportView) → o ≡ Some v → Contains recorded (x.name, v))

  recorded_of : (xs : List CoreExport) (recorded : ExportRecord) (x : CoreExport) → AreExports s keys xs recorded → Contains xs x → RecordedAs x recorded
  recorded_of [] recorded x h there = absurd (contains_none x there)
  recorded_of (z ∷ xs) recorded x h there = elim (contains_cons z xs x there) [
    | inl is ↦ subst (λ (a : CoreExport). RecordedAs a recorded) is (
      h.0,
      h.2,
      λ v o. subst (λ a. Contains a (z.name, v)) (sym h.4)
          (Contains-append_left (entry_of z.name h.0) h.1 (z.name, v) (entry_there z.name h.0 v o)),
    )
    | inr later ↦ (let rest = recorded_of xs h.1 x h.3 later in
        (rest.0, rest.1, λ v o. subst (λ a. Contains a (x.name, v)) (sym h.4) (Contains-append_right (entry_of z.name h.0) h.1 (x.name, v) (rest.2 v o))))
  ]

  -- names that are recorded occur once, if those of the exports do
  recorded_at : (x : CoreExport) (o : Option ExportView) (rest : ExportRecord) → All (λ (y : List ℕ × ExportView). x.name ≢ y.0) rest
      → HaveDistinctNames (λ y. y.0) rest → HaveDistinctNames (λ y. y.0) (entry_of x.name o ++ rest)
  recorded_at x None rest first distinct = distinct
  recorded_at x (Some v) rest first distinct = AllPairs-cons (λ (a b : List ℕ × ExportView). a.0 ≢ b.0) (x.name, v) rest first distinct

  distinct_recorded : (xs : List CoreExport) (recorded : ExportRecord) → HaveDistinctNames (λ x. x.name) xs → AreExports s keys xs recorded
      → HaveDistinctNames (λ y. y.0) recorded
  distinct_recorded [] recorded distinct h = subst (HaveDistinctNames (λ y. y.0)) (sym h) (pairs_none (λ (a b : List ℕ × ExportView). a.0 ≢ b.0))
  distinct_recorded (x ∷ xs) recorded distinct h =
      let first = pairs_head (λ (a b : CoreExport). a.name ≢ b.name) x xs distinct in
      let others : All (λ (y : List ℕ × ExportView). x.name ≢ y.0) h.1 = all_by (λ (y : List ℕ × ExportView). x.name ≢ y.0) h.1
      (λ y there. let from = recorded_from xs h.1 y h.3 there in subst (λ n. x.name ≢ n) from.2
      (All-contains (λ (a : CoreExport). x.name ≢ a.name) xs from.0 first from.1)) in
      subst (HaveDistinctNames (λ y. y.0)) (sym h.4) (recorded_at x h.0 h.1 others
      (distinct_recorded xs h.1 (pairs_tail (λ (a b : CoreExport). a.name ≢ b.name) x xs distinct) h.3))

  mismatch_in : (xs : List CoreExport) → HasMismatch s keys xs → (x : CoreExport) × Contains xs x × IsMismatched s keys x
  mismatch_in [] h = absurd h
  mismatch_in (x ∷ xs) (inl h) = (x, contains_head xs x, h)
  mismatch_in (x ∷ xs) (inr h) = let rest = mismatch_in xs h.2 in (rest.0, contains_tail x xs rest.0 rest.1, rest.2)

  module _ (unique : ExportsUnique) where
    not_mismatched : (x : CoreExport) (o : Option ExportView) → IsExportEntry s keys x o → ¬ IsMismatched s keys x
    unfolding IsExportEntry IsMismatched
    not_mismatched x None h k = h (is_export k.0 (Some k.1)) k.2
    not_mismatched x (Some v) h k =
        let both = unique s keys x (is_export v h.0) (is_export k.0 (Some k.1)) h.1 k.2 in
        k.3 (subst (HasSignature x.ty) (ap (λ (z : ExportMeaning). z.ty) both) h.2)

    -- no export that was recorded is refused
    pub no_mismatch_among : (xs ys : List CoreExport) (p : ExportRecord) → AreExports s keys xs p → ((x : CoreExport) → Contains ys x → HasSameButIndices xs x)
        → ¬ HasMismatch s keys ys
    no_mismatch_among xs ys p first from h =
        let bad = mismatch_in ys h in
        let other = from bad.0 bad.1 in
        let was = recorded_of xs p other.0 first other.1 in
        not_mismatched bad.0 was.0 (entry_kept other.0 bad.0 was.0 other.2 other.3 was.1) bad.2

    -- what is recorded of an export is recorded of it among others
    moved : (xs ys : List CoreExport) (p q : ExportRecord) (y : List ℕ × ExportView) → AreExports s keys xs p → AreExports s keys ys q → Contains p y
        → ((x : CoreExport) → Contains xs x → x.name ≡ y.0 → HasSameButIndices ys x) → Contains q y
    moved xs ys p q y first second there each =
        let from = recorded_from xs p y first there in
        let other = each from.0 from.1 from.2 in
        let is = recorded_of ys q other.0 second other.1 in
        let same = same_entries s keys other.0 is.0 (Some y.1) unique is.1 (entry_kept from.0 other.0 (Some y.1) (sym other.2) (sym other.3) from.3) in
        subst (λ n. Contains q (n, y.1)) (other.2 ∙ from.2) (is.2 y.1 same)

-- memories among what is recorded
counted : (b : Bool) (n : ℕ) → b ≡ true → cond b (n + 1) n ≡ n + 1
counted b n is = ap (λ z. cond z (n + 1) n) is

memory_some_at : (b : Bool) (n : ℕ) (P : Type 0) → 0 < cond b (n + 1) n → (b ≡ true → P) → (0 < n → P) → P
memory_some_at true n P h here later = here refl
memory_some_at false n P h here later = later h

abbrev HasMemory : ExportRecord → Type 0
HasMemory xs = (a : List ℕ × ExportView) × Contains xs a × (is_memory a.1 ≡ true)

memory_some : (xs : ExportRecord) → 0 < memory_count xs → HasMemory xs
memory_some [] h = absurd (omega (arith, h))
memory_some (x ∷ xs) h =
    memory_some_at (is_memory x.1) (memory_count xs) (HasMemory (x ∷ xs)) h (λ is. (x, contains_head xs x, is))
    (λ more. let rest = memory_some xs more in (rest.0, contains_tail x xs rest.0 rest.1, rest.2))

at_least : (b : Bool) (n : ℕ) → n ≤ cond b (n + 1) n
at_least true n = omega arith
at_least false n = omega arith

memory_there : (xs : ExportRecord) (a : List ℕ × ExportView) → Contains xs a → is_memory a.1 ≡ true → 0 < memory_count xs
memory_there [] a there is = absurd (contains_none a there)
memory_there (x ∷ xs) a there is = elim (contains_cons x xs a there) [
  | inl same ↦ (let one = counted (is_memory x.1) (memory_count xs) (ap (λ (z : List ℕ × ExportView). is_memory z.1) same ∙ is) in omega (arith, one))
  | inr later ↦ (let some = memory_there xs a later is in let least = at_least (is_memory x.1) (memory_count xs) in omega (arith, some, least))
]

-- where there is one at most, it is the same
no_other : (xs : ExportRecord) (x b : List ℕ × ExportView) → memory_count (x ∷ xs) ≤ 1 → is_memory x.1 ≡ true → Contains xs b → is_memory b.1 ≡ true → ⊥
no_other xs x b bounded is there other =
    let one = counted (is_memory x.1) (memory_count xs) is in let some = memory_there xs b there other in omega (arith, bounded, one, some)

is_first : (x c : List ℕ × ExportView) → x ≡ c → is_memory c.1 ≡ true → is_memory x.1 ≡ true
is_first x c same is = ap (λ (z : List ℕ × ExportView). is_memory z.1) same ∙ is

same_at : (xs : ExportRecord) (x a b : List ℕ × ExportView) → memory_count (x ∷ xs) ≤ 1 → is_memory a.1 ≡ true → is_memory b.1 ≡ true → (x ≡ a) ⊎ Contains xs a
    → (x ≡ b) ⊎ Contains xs b
    → (memory_count xs ≤ 1 → Contains xs a → Contains xs b → a ≡ b) → a ≡ b
same_at xs x a b bounded is_a is_b (inl p) (inl q) rest = sym p ∙ q
same_at xs x a b bounded is_a is_b (inl p) (inr q) rest = absurd (no_other xs x b bounded (is_first x a p is_a) q is_b)
same_at xs x a b bounded is_a is_b (inr p) (inl q) rest = absurd (no_other xs x a bounded (is_first x b q is_b) p is_a)
same_at xs x a b bounded is_a is_b (inr p) (inr q) rest = rest (let least = at_least (is_memory x.1) (memory_count xs) in omega (arith, bounded, least)) p q

memory_same : (xs : ExportRecord) (a b : List ℕ × ExportView) → memory_count xs ≤ 1 → Contains xs a → is_memory a.1 ≡ true → Contains xs b
    → is_memory b.1 ≡ true → a ≡ b
memory_same [] a b bounded at_a is_a at_b is_b = absurd (contains_none a at_a)
memory_same (x ∷ xs) a b bounded at_a is_a at_b is_b =
    same_at xs x a b bounded is_a is_b (contains_cons x xs a at_a) (contains_cons x xs b at_b) (λ fewer p q. memory_same xs a b fewer p is_a q is_b)

-- where there are more, two have different names
abbrev HasTwo : ExportRecord → Type 0
HasTwo xs = (a b : List ℕ × ExportView) × Contains xs a × (is_memory a.1 ≡ true) × Contains xs b × (is_memory b.1 ≡ true) × (a.0 ≢ b.0)

abbrev HasOther : List ℕ × ExportView → List ℕ × ExportView → Type 0
HasOther a b = a.0 ≢ b.0

two_at : (b : Bool) (n : ℕ) (P : Type 0) → 1 < cond b (n + 1) n → (b ≡ true → 0 < n → P) → (1 < n → P) → P
two_at true n P h here later = here refl (omega (arith, h))
two_at false n P h here later = later h

two_memories : (xs : ExportRecord) → HaveDistinctNames (λ (y : List ℕ × ExportView). y.0) xs → 1 < memory_count xs → HasTwo xs
two_memories [] distinct h = absurd (omega (arith, h))
two_memories (x ∷ xs) distinct h =
    two_at (is_memory x.1) (memory_count xs) (HasTwo (x ∷ xs)) h
    (λ is more. let other = memory_some xs more in (
      x,
      other.0,
      contains_head xs x,
      is,
      contains_tail x xs other.0 other.1,
      other.2,
      All-contains (HasOther x) xs other.0 (pairs_head HasOther x xs distinct)
          other.1,
    ))
    (λ more. let rest = two_memories xs (pairs_tail HasOther x xs distinct) more in
    (rest.0, rest.1, contains_tail x xs rest.0 rest.2, rest.3, contains_tail x xs rest.1 rest.4, rest.5, rest.6))

-- a required function's name is among these
abbrev pub IsNamedIn : List (List ℕ) → Requirement → Type 0
IsNamedIn names (typed_function name ty) = Contains names name
IsNamedIn names need = Unit {0}

item_named : (names : List (List ℕ)) (o : Option ItemView) (need : Requirement) → option_and_then item_requirement o ≡ Some need → IsNamedIn names need
item_named names None need h = absurd (none_some need h)
item_named names (Some (interface_item i external)) need h = subst (IsNamedIn names) (some_same h) tt
item_named names (Some (function_item f)) need h = subst (IsNamedIn names) (some_same h) tt
item_named names (Some x) need h = absurd (none_some need h)

all_named : (names : List (List ℕ)) (exports : Entries) (keys : List KeyView) (required : List (List ℕ × FuncTypeValue))
    → All (λ (f : List ℕ × FuncTypeValue). Contains names f.0) required
    → All (IsNamedIn names) (requirements exports keys required)
all_named names exports keys required h =
    All-cons (IsNamedIn names) one_memory (callbacks ∷ (key_requirements exports keys ++ map type_requirement required)) tt
    (All-cons (IsNamedIn names) callbacks (key_requirements exports keys ++ map type_requirement required) tt
    (All-append (IsNamedIn names) (key_requirements exports keys) (map type_requirement required)
    (all_by (IsNamedIn names) (key_requirements exports keys)
    (λ need there. let from = kept_from (key_requirement exports) keys need there in item_named names (item_under exports from.0) need from.2))
    (All-map (IsNamedIn names) type_requirement required h)))

typed_at : (x : CoreExport) (o : Option FuncTypeValue) (y : List ℕ × FuncTypeValue) → option_map (λ (ty : FuncTypeValue). (x.name, ty)) o ≡ Some y
    → y.0 ≡ x.name
typed_at x None y h = absurd (none_some y h)
typed_at x (Some ty) y h = ap (λ (z : List ℕ × FuncTypeValue). z.0) (sym (some_same h))

keeps_name : (x : CoreExport) (y : List ℕ × FuncTypeValue) → typed_name x ≡ Some y → y.0 ≡ x.name
keeps_name x y h = typed_at x (as_function_type x.ty) y h

typed_of : (name : List ℕ) (t : ExternType) (y : List ℕ × FuncTypeValue) → option_map (λ (ty : FuncTypeValue). (name, ty)) (as_function_type t) ≡ Some y
    → t ≡ func_type y.1
typed_of name (func_type f) y h = ap (λ (z : List ℕ × FuncTypeValue). func_type z.1) (some_same h)
typed_of name (table_type t) y h = absurd (none_some y h)
typed_of name (memory_type t) y h = absurd (none_some y h)
typed_of name (global_type t) y h = absurd (none_some y h)

-- exports that are the same but for type indices are functions of one type, where it names no types
typed_the_same : (x z : CoreExport) (name : List ℕ) (ty : FuncTypeValue) → z.name ≡ x.name → AreSameButIndices z.ty x.ty → names_types ty ≡ false
    → typed_name x ≡ Some (name, ty) → typed_name z ≡ Some (name, ty)
typed_the_same x z name ty same but_indices plain h =
    let is : z.ty ≡ func_type ty = of_same_fixed x.ty z.ty ty (sym but_indices) (typed_of x.name x.ty (name, ty) h) plain in
    let named : z.name ≡ name = same ∙ sym (keeps_name x (name, ty) h) in
    ap (λ t. option_map (λ (f : FuncTypeValue). (z.name, f)) (as_function_type t)) is ∙ ap (λ (n : List ℕ). Some (n, ty)) named

-- exports of which others have such ones, at least those that are recorded or required
module _ (s : NameScope) (keys : List KeyView) (unique : ExportsUnique) (names : List (List ℕ)) (xs ys : List CoreExport) (p q : ExportRecord)
    (first : AreExports s keys xs p) (second : AreExports s keys ys q)
    (from : (x : CoreExport) → Contains ys x → HasSameButIndices xs x)
    (kept : (x : CoreExport) → Contains xs x → Contains names x.name → HasSameButIndices ys x)
    (recorded : All (λ (y : List ℕ × ExportView). Contains names y.0) p) where
  pub back : (y : List ℕ × ExportView) → Contains q y → Contains p y
  back y there = moved s keys unique ys xs q p y second first there (λ x at named. from x at)

  pub forth : (y : List ℕ × ExportView) → Contains p y → Contains q y
  forth y there =
      moved s keys unique xs ys p q y first second there (λ x at named. kept x at (subst (Contains names) (sym named)
      (All-contains (λ (z : List ℕ × ExportView). Contains names z.0) p y recorded there)))

  module _ (distinct : HaveDistinctNames (λ (x : CoreExport). x.name) ys) where
    record_distinct : HaveDistinctNames (λ (y : List ℕ × ExportView). y.0) q
    record_distinct = distinct_recorded s keys ys q distinct second

    one_still : memory_count p ≤ 1 → memory_count q ≤ 1
    one_still bounded = at_most_one (memory_count q) (λ many. let two = two_memories q record_distinct many in
        two.6 (ap (λ (z : List ℕ × ExportView). z.0) (memory_same p two.0 two.1 bounded (back two.0 two.2) two.3 (back two.1 two.4) two.5)))

    same_called : (e : List ℕ × ExportView) → is_called_back q e ≡ is_called_back p e
    unfolding is_called_back
    same_called e =
        ap (λ o. not (needs_callback e.1) || option_map_or (is_callback_for e.1) o false) (same_lookups q record_distinct p back forth (callback_name e.0))

    functions_still : (f : Option ℕ × List ℕ) → Contains (function_names p) f → Contains (function_names q) f
    functions_still f there = let of = kept_from function_name p f there in kept_there function_name q of.0 f (forth of.0 of.1) of.2

    typed_still : (name : List ℕ) (ty : FuncTypeValue) → names_types ty ≡ false → Contains names name
        → lookup (bytes_eq name) (filter_map typed_name xs) ≡ Some ty → lookup (bytes_eq name) (filter_map typed_name ys) ≡ Some ty
    typed_still name ty plain named h =
        let of = kept_from typed_name xs (name, ty) (found_there name (filter_map typed_name xs) ty h) in
        let other = kept of.0 of.1 (subst (Contains names) (keeps_name of.0 (name, ty) of.2) named) in
        lookup_one (filter_map typed_name ys) (distinct_kept typed_name (λ (x : CoreExport). x.name) (λ (y : List ℕ × FuncTypeValue). y.0)
        keeps_name ys distinct) name ty
        (kept_there typed_name ys other.0 (name, ty) other.1 (typed_the_same of.0 other.0 name ty other.2 other.3 plain of.2))

    met_still : (r : ResolveView) (need : Requirement) → IsNamedIn names need → IsMet r xs p need → IsMet r ys q need
    met_still r one_memory named h = one_still h
    met_still r callbacks named h =
        all_by (λ (e : List ℕ × ExportView). IsTrue (is_called_back q e)) q
        (λ e there. subst IsTrue (sym (same_called e)) (All-contains (λ (z : List ℕ × ExportView). IsTrue (is_called_back p z)) p e h (back e there)))
    met_still r (interface_functions i) named h =
        All-weaker (λ (f : List ℕ × FunctionView). Contains (function_names p) (Some i, f.0))
        (λ (f : List ℕ × FunctionView). Contains (function_names q) (Some i, f.0)) (λ f there. functions_still (Some i, f.0) there) (functions_of r i) h
    met_still r (world_function name) named h = functions_still (None, name) h
    met_still r (typed_function name ty) named h = (h.0, typed_still name ty h.0 named h.1)

    all_met : (r : ResolveView) (needs : List Requirement) → All (IsNamedIn names) needs → AreMet r xs p needs → AreMet r ys q needs
    all_met r [] named h = tt
    all_met r (need ∷ needs) named h =
        (met_still r need (All-head (IsNamedIn names) need needs named) h.0, all_met r needs (All-tail (IsNamedIn names) need needs named) h.1)

first_unmet : (r : ResolveView) (xs : List CoreExport) (recorded : ExportRecord) (needs : List Requirement) (f : ValidateFault) → f ≢ Memory
    → IsUnmetFault r xs recorded needs f → IsFirstUnmet r xs recorded needs f
first_unmet r xs recorded needs Memory other h = absurd (other refl)
first_unmet r xs recorded needs f other h = h

mismatch_of : (s : NameScope) (keys : List KeyView) (xs : List CoreExport) (f : ValidateFault) → f ≢ Memory → IsExportsFault s keys xs f → HasMismatch s keys xs
mismatch_of s keys xs Memory other h = absurd (other refl)
mismatch_of s keys xs SignatureMismatch other h = h
mismatch_of s keys xs f other h = absurd h

-- neither the exports nor what is required is refused
module _ (s : NameScope) (keys : List KeyView) (unique : ExportsUnique) (names : List (List ℕ)) (xs ys : List CoreExport) (p : ExportRecord)
    (first : AreExports s keys xs p)
    (distinct : HaveDistinctNames (λ (x : CoreExport). x.name) ys) (from : (x : CoreExport) → Contains ys x → HasSameButIndices xs x)
    (kept : (x : CoreExport) → Contains xs x → Contains names x.name → HasSameButIndices ys x)
    (recorded : All (λ (y : List ℕ × ExportView). Contains names y.0) p) (required : List (List ℕ × FuncTypeValue))
    (named : All (λ (f : List ℕ × FuncTypeValue). Contains names f.0) required) where
  abbrev needs : List Requirement
  needs = requirements s.world.exports keys required

  pub exports_valid : (f : ValidateFault) → f ≢ Memory → AreMet s.resolve xs p needs
      → ¬ (IsExportsFault s keys ys f ⊎ ((q : ExportRecord) × AreExports s keys ys q × IsUnmetFault s.resolve ys q needs f))
  exports_valid f other met (inl h) = no_mismatch_among s keys unique xs ys p first from (mismatch_of s keys ys f other h)
  exports_valid f other met (inr h) =
      no_unmet s.resolve ys h.0 f needs (all_met s keys unique names xs ys p h.0 first h.1 from kept recorded distinct s.resolve needs
      (all_named names s.world.exports keys required named) met)
      (first_unmet s.resolve ys h.0 needs f other h.2)
