-- An import that is recorded as the main module's memory is a memory, of a type as modules have them.
use Rattle.std.proofs.Common.{◌≡◌, ◌⊎◌, ℕ, ◌≤◌, Bool, true, false, All, Contains, IfSome, List, [], ◌∷◌, MatchOption, Option, Some, None, refl, sym, ap, subst, ◌∙◌, inl, inr, arith}
use Rattle.std.specs.Prelude.{if◌then◌else◌, slice_get, unwrap_or}
use Rattle.std.specs.Option.{option_and_then, option_map}
use Rattle.std.proofs.lemmas.List.Elements.{All-contains}
use Rattle.wc_read.specs.declared.types.ImportType.{ImportType}
use Rattle.wc_read.specs.declared.types.ImportType.TheVariants as imported
use Rattle.wc_read.specs.declared.types.MemoryType.{MemoryType}
use Rattle.wc_read.specs.declared.types.ValType.{ValType}
use Rattle.wc_read.specs.Formats.{SpellsItems}
use Rattle.wc_read.specs.Imports.{ImportValue, SpellsImport, SpellsImportType, SpellsImports}
use Rattle.wc_read.specs.Limits.{IsMemory}
use Rattle.wc_read.specs.Modules.{ModuleValue, SpellsModule}
use Rattle.wc_read.specs.Order.{content_of}
use Rattle.wc_read.specs.Sections.{import_id}
use Rattle.wc_read.specs.Types.{FuncTypeValue, names_types}
use Rattle.wc_maps.proofs.ListLemmas.{contains_cons, contains_none}
use Rattle.wc_resolve.specs.Views.{KeyView, WorldView}
use Rattle.wc_resolve.specs.Kinds.{ResolveView}
use Rattle.wc_adapters.specs.Adapters.{InstanceView, LibraryItemView, item_instance, module_instance}
use Rattle.wc_names.specs.Builtins.{builtin_import}
use Rattle.wc_names.specs.Environment.{EnvironmentFunction, NamesEnvironment, environment_row, get_stack_pointer, get_tls_base, names_value_type, set_stack_pointer, set_tls_base}
use Rattle.wc_names.specs.Imports.{Classified, CoreFunction, CoreImport, ExternType, IsKind, IsRule, Kind, Rule, NameScope, adapter_function, by_scheme, environment, export_intrinsic, export_other_name, export_root_intrinsic, export_unknown, func_type, interface_function, interface_intrinsic, interface_other_name, interface_unknown, main_item, main_memory, memory_type, not_function, root_builtin, root_function, root_intrinsic, root_other_item, root_unknown, rules, scope_of, without_prefix}
use Rattle.wc_names.specs.Keys.{Scope, scope_key, world_scope}
use Rattle.wc_names.specs.Meanings.{Meaning, means, refuses, typed_reference}
use Rattle.wc_names.specs.Mangling.{ResourceOperation, Scheme, legacy, resource_drop, resource_new, resource_rep, standard}
use Rattle.wc_names.specs.Views.{Builtin, ImportView, adapter_export, waitable_set_poll, waitable_set_wait}
use Rattle.wc_names.specs.WitIntrinsics.{IsWitIntrinsic, WitIntrinsic, no_task_return, of_async_value, of_resource, resource_row, task_cancel, task_return}
use Rattle.wc_names.proofs.SearchLemmas.{first_kind}
use Rattle.wc_validate.specs.Imports.Entries.{Entry, InstanceRecord, Records, all_of, memory_type_of, names_of}
use Rattle.wc_validate.specs.Imports.Map.{imports_in, memory_in, memory_in_record, singles_of}
use Rattle.wc_validate.specs.Imports.Record.{ImportScope, IsEntry, argument_entry, argument_for, extern_type, item_by_alias, item_entry}
use Rattle.wc_validate.specs.MemoryTypes.{RecordedMemoriesValid}
use Rattle.wc_validate.proofs.ContainedLemmas.{first_from, flat_there, mapped_there, none_some, some_same}
use Rattle.wc_validate.proofs.RecordLawLemmas.{OnImport, OnSingle, by_modules_all, entries_all}

-- a meaning that is no memory
abbrev NoMemory : Meaning → Type 0
NoMemory (means i required_type) = memory_type_of i ≡ None
NoMemory (refuses why) = Unit {0}

builtin_none : (b : Builtin) → memory_type_of (builtin_import b) ≡ None
builtin_none (waitable_set_wait t) = refl
builtin_none (waitable_set_poll t) = refl
builtin_none b = refl

resource_none : (imports : Bool) (op : ResourceOperation) (key : KeyView) (i : Option ℕ) (t : ℕ)
    → memory_type_of ((resource_row imports op).meaning key i t) ≡ None
resource_none true op key i t = refl
resource_none false resource_drop key i t = refl
resource_none false resource_new key i t = refl
resource_none false resource_rep key i t = refl

environment_none : (f : EnvironmentFunction) (t : ValType) → memory_type_of ((environment_row f).meaning t) ≡ None
environment_none get_stack_pointer t = refl
environment_none set_stack_pointer t = refl
environment_none get_tls_base t = refl
environment_none set_tls_base t = refl

named_none : (s : Scheme) (name : List ℕ) (ty : FuncTypeValue) (i : ImportView) → NamesEnvironment s name ty i → memory_type_of i ≡ None
named_none standard name ty i h = absurd h
named_none (legacy hook) name ty i h = ap memory_type_of h.5 ∙ environment_none h.0 h.1

-- what is refused is no memory
meant_none : (refused : Bool) (i : ImportView) → memory_type_of i ≡ None → NoMemory (if refused then refuses typed_reference else means i None)
meant_none true i h = tt
meant_none false i h = h

intrinsic_none : (s : Scheme) (r : ResolveView) (w : WorldView) (imports : Bool) (scope : Scope) (name : List ℕ) (k : WitIntrinsic) (m : Meaning)
    → IsWitIntrinsic s r w imports scope name k m → NoMemory m
intrinsic_none s r w imports scope name (of_resource op) m x = subst NoMemory (sym x.4) (resource_none imports op (scope_key scope x.0) scope.interface x.1)
intrinsic_none s r w imports scope name task_return m x = subst NoMemory (sym x.4) refl
intrinsic_none s r w imports scope name no_task_return m x = subst NoMemory (sym x.3) tt
intrinsic_none s r w imports scope name task_cancel m x = subst NoMemory (sym x.1) refl
intrinsic_none s r w imports scope name of_async_value m x = subst NoMemory (sym x.5) refl

-- no name of a function is a memory
kind_none : (s : Scheme) (e : NameScope) (c : CoreFunction) (k : Kind) (m : Meaning) → IsKind s e c k m → NoMemory m
kind_none s e c root_builtin m x = subst NoMemory (sym x.3) (builtin_none x.1)
kind_none s e c root_function m x = subst NoMemory (sym x.6) refl
kind_none s e c (root_intrinsic k) m x = intrinsic_none s e.resolve e.world true world_scope c.name k m x.1
kind_none s e c root_other_item m x = subst NoMemory (sym x.5) tt
kind_none s e c root_unknown m x = subst NoMemory (sym x.1) tt
kind_none s e c environment m x = subst NoMemory (sym x.3) (meant_none (names_value_type x.1) x.1 (named_none s c.name c.ty x.1 x.2))
kind_none s e c (export_root_intrinsic k) m x = intrinsic_none s e.resolve e.world false world_scope c.name k m x.1
kind_none s e c without_prefix m x = subst NoMemory (sym x.1) tt
kind_none s e c export_unknown m x = subst NoMemory (sym x.3) tt
kind_none s e c (export_intrinsic k) m x = intrinsic_none s e.resolve e.world false (scope_of x.0) c.name k m x.2
kind_none s e c export_other_name m x = subst NoMemory (sym x.2) tt
kind_none s e c interface_unknown m x = subst NoMemory (sym x.3) tt
kind_none s e c interface_function m x = subst NoMemory (sym x.7) refl
kind_none s e c (interface_intrinsic k) m x = intrinsic_none s e.resolve e.world true (scope_of x.0) c.name k m x.2
kind_none s e c interface_other_name m x = subst NoMemory (sym x) tt

-- a memory that is meant is the import's own type
abbrev HasItsType : ExternType → Meaning → Type 0
HasItsType ty (means i required_type) = (t : MemoryType) → memory_type_of i ≡ Some t → ty ≡ memory_type t
HasItsType ty (refuses why) = Unit {0}

no_memory : (ty : ExternType) (m : Meaning) → NoMemory m → HasItsType ty m
no_memory ty (means i required_type) h = λ t is. absurd (none_some t (sym h ∙ is))
no_memory ty (refuses why) h = tt

rule_typed : (e : NameScope) (a : CoreImport) (k : Rule) (m : Meaning) → IsRule e a k m → HasItsType a.ty m
rule_typed e a main_memory m x = subst (HasItsType a.ty) (sym x.4) (λ t is. x.3 ∙ ap memory_type (some_same is))
rule_typed e a main_item m x = subst (HasItsType a.ty) (sym x.1) (λ t is. absurd (none_some t is))
rule_typed e a not_function m x = subst (HasItsType a.ty) (sym x.1) tt
rule_typed e a adapter_function m x = no_memory a.ty m (subst NoMemory (sym x.3) (meant_none (names_types x.1) (adapter_export a.from a.name x.1) refl))
rule_typed e a (by_scheme k) m x = no_memory a.ty m (kind_none x.1 e (record { from = x.2; name = a.name; ty = x.0 }) k m x.5)

memory_typed : (e : NameScope) (a : CoreImport) (i : ImportView) (required_type : Option FuncTypeValue) → Classified e a (means i required_type)
    → HasItsType a.ty (means i required_type)
memory_typed e a i required_type h =
    let found = first_kind (IsRule e a) rules (means i required_type) h in rule_typed e a found.0 (means i required_type) found.1

-- memories that are imported have types that bytes spell
abbrev HasMemoryType : ImportValue → Type 0
HasMemoryType i = (t : MemoryType) → i.ty ≡ imported.Memory t → IsMemory t

spelled_one : (bytes : List ℕ) (i : ImportValue) → SpellsImport bytes i → HasMemoryType i
spelled_one bytes i h t is = (subst (SpellsImportType h.type_bytes) is h.has_type).2.is_memory

spelled_items : (bytes : List ℕ) (is : List ImportValue) → SpellsItems SpellsImport bytes is → (i : ImportValue) → Contains is i → HasMemoryType i
spelled_items bytes [] h i there = absurd (contains_none i there)
spelled_items bytes (j ∷ is) h i there = elim (contains_cons j is i there) [
  | inl same ↦ subst HasMemoryType same (spelled_one h.0 j h.3)
  | inr later ↦ spelled_items h.1 is h.4 i later
]

spelled_content : (o : Option (List ℕ)) (is : List ImportValue) → MatchOption o (is ≡ []) (λ content. SpellsImports content is) → (i : ImportValue)
    → Contains is i → HasMemoryType i
spelled_content None is h i there = absurd (contains_none i (subst (λ z. Contains z i) h there))
spelled_content (Some content) is h i there = spelled_items h.1 is h.4 i there

spelled_memories : (bytes : List ℕ) (m : ModuleValue) → SpellsModule bytes m → (i : ImportValue) → Contains m.imports i → HasMemoryType i
spelled_memories bytes m h i there =
    let parts = h.has_sections.parts in
    let same : m.imports ≡ parts.imports = ap (λ (z : ModuleValue). z.imports) h.has_sections.assembled.is in
    spelled_content (content_of import_id h.sections) parts.imports h.has_sections.has_contents.has_imports i (subst (λ z. Contains z i) same there)

imported_memory : (types : List FuncTypeValue) (ty : ImportType) (t : MemoryType) → extern_type types ty ≡ Some (memory_type t) → ty ≡ imported.Memory t
imported_memory types (imported.Func index) t h = absurd (at (slice_get types index) h) where
  at : (o : Option FuncTypeValue) → option_map func_type o ≡ Some (memory_type t) → ⊥
  at None e = none_some (memory_type t) e
  at (Some f) e = let bad : ⊥ = cc e in bad
imported_memory types (imported.Table u) t h = absurd (let bad : ⊥ = cc h in bad)
imported_memory types (imported.Memory u) t h = let both = some_same h in let same : u ≡ t = cc both in ap imported.Memory same
imported_memory types (imported.Global u) t h = absurd (let bad : ⊥ = cc h in bad)

-- what is recorded as the main module's memory
abbrev IsValid : List ℕ → List ℕ → ImportView → Type 0
IsValid m n i = (t : MemoryType) → memory_type_of i ≡ Some t → IsMemory t

item_valid : (m n : List ℕ) (item : Option LibraryItemView) (x : Entry) → option_map (item_entry m n) item ≡ Some x → OnSingle IsValid x
item_valid m n None x is = absurd (none_some x is)
item_valid m n (Some item) x is = subst (OnSingle IsValid) (some_same is) (λ t h. absurd (none_some t h))

passed_valid : (m n : List ℕ) (o : Option InstanceView) (x : Entry) → option_and_then (argument_entry m n) o ≡ Some x → OnSingle IsValid x
passed_valid m n None x is = absurd (none_some x is)
passed_valid m n (Some (module_instance which)) x is = subst (OnSingle IsValid) (some_same is) tt
passed_valid m n (Some (item_instance items)) x is = item_valid m n (item_by_alias items n) x is

entry_valid : (s : ImportScope) (i : ImportValue) (x : Entry) → HasMemoryType i → IsEntry s i x → OnSingle IsValid x
entry_valid s i x typed (inl h) = passed_valid i.module_name i.name (argument_for s.library i.module_name) x h
entry_valid s i x typed (inr h) =
    subst (OnSingle IsValid) (sym h.7) (λ t is. typed t (imported_memory s.types i.ty t (h.4.2 ∙ ap Some (memory_typed s.name_scope h.1 h.2 h.3 h.5 t is))))

memory_single : (m : List ℕ) (r : InstanceRecord) (t : MemoryType) → memory_in_record r ≡ Some t → (y : List ℕ × (List ℕ × ImportView))
    × Contains (singles_of (m, r)) y × (memory_type_of y.1.1 ≡ Some t)
memory_single m (all_of which) t h = absurd (none_some t h)
memory_single m (names_of names) t h =
    let found = first_from (λ (x : List ℕ × ImportView). memory_type_of x.1) names t h in
    ((m, found.0), mapped_there (λ (x : List ℕ × ImportView). (m, x)) names found.0 found.1, found.2)

recorded_valid : (records : Records) (t : MemoryType) → All (OnImport IsValid) (imports_in records) → memory_in records ≡ Some t → IsMemory t
recorded_valid records t all h =
    let found = first_from (λ (x : List ℕ × InstanceRecord). memory_in_record x.1) records t h in
    let one = memory_single (found.0).0 (found.0).1 t found.2 in
    All-contains (OnImport IsValid) (imports_in records) one.0 all (flat_there singles_of records found.0 one.0 found.1 one.1) t one.2

small : (o : Option ℕ) → IfSome o (λ n. (n ≡ 0) ⊎ (n ≡ 16)) → unwrap_or o 16 ≤ 16
small None h = omega arith
small (Some n) (inl e) = omega (arith, e)
small (Some n) (inr e) = omega (arith, e)

pub recorded_memories : RecordedMemoriesValid
recorded_memories j bytes r t h is =
    let own = h.imports in
    let each = entries_all own.0 (OnSingle IsValid) [] (h.value).imports own.2.0
    (λ i x there entry. entry_valid own.0 i x (spelled_memories bytes h.value h.spelled i there) entry) own.2.1 in
    let valid = recorded_valid r.imports t (subst (λ z. All (OnImport IsValid) (imports_in z)) (sym own.2.2) (by_modules_all IsValid own.2.0 each)) is in
    (valid, small t.page_size_log2 valid.known_page_size)
