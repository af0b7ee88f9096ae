-- What an import means does not depend on the indices by which its type names types, and a signature that a name fixes
-- has none.
use Rattle.std.proofs.Common.{◌≡◌, ℕ, Bool, true, false, List, [], ◌∷◌, map, refl, sym, ap, subst, ◌∙◌, Option, Some, None}
use Rattle.std.specs.Prelude.{is_some, if◌then◌else◌}
use Rattle.std.specs.List.{list_any}
use Rattle.std.specs.Option.{option_and_then}
use Rattle.wc_maps.proofs.OptionLemmas.{none_of_false}
use Rattle.wc_read.specs.declared.types.ValType.{ValType}
use Rattle.wc_read.specs.declared.types.ValType.TheVariants.{TypeRef}
use Rattle.wc_read.specs.Renumbering.{renumber_func_type, renumber_val_type}
use Rattle.wc_read.specs.Types.{FuncTypeValue, names_type, names_types, type_index}
use Rattle.wc_resolve.specs.declared.flat.WasmType.{WasmType}
use Rattle.wc_resolve.specs.declared.flat.WasmType.TheVariants as flat
use Rattle.wc_resolve.specs.declared.functions.AbiVariant.{AbiVariant}
use Rattle.wc_resolve.specs.Flat.{flat_of}
use Rattle.wc_resolve.specs.Signature.{SignatureView, flatten_functype}
use Rattle.wc_resolve.specs.Views.{FunctionView, WorldView}
use Rattle.wc_resolve.specs.Kinds.{ResolveView}
use Rattle.wc_names.specs.declared.async_values.AsyncValue.{AsyncValue}
use Rattle.wc_names.specs.declared.async_values.AsyncValue.TheVariants.{Future, Stream}
use Rattle.wc_names.specs.declared.async_values.Operation.{Operation}
use Rattle.wc_names.specs.declared.async_values.Operation.TheVariants.{Read, Write}
use Rattle.wc_names.specs.SameButIndices.{AreSameButIndices, no_indices}
use Rattle.wc_names.specs.AsyncValues.{operation_row}
use Rattle.wc_names.specs.Builtins.{NamesBuiltin, builtin_type, pointer_suffixes, slot_prefixes}
use Rattle.wc_names.specs.Environment.{EnvironmentFunction, NamesEnvironment, environment_meaning, environment_row, environment_type, get_stack_pointer, get_tls_base, names_value_type, set_stack_pointer, set_tls_base}
use Rattle.wc_names.specs.Imports.{Classified, CoreFunction, CoreImport, ExternType, IsFunction, IsKind, IsRule, Kind, Rule, NameScope, adapter_function, adapter_meaning, by_scheme, environment, export_intrinsic, export_other_name, export_root_intrinsic, export_unknown, extern_kind, function_type, interface_function, interface_intrinsic, interface_other_name, interface_unknown, main_item, main_memory, not_function, root_builtin, root_function, root_intrinsic, root_other_item, root_unknown, rules, scope_of, signature_type, val_type, without_prefix}
use Rattle.wc_names.specs.Keys.{Scope, world_scope}
use Rattle.wc_names.specs.Meanings.{Meaning, means, refuses, typed_reference}
use Rattle.wc_names.specs.Mangling.{ResourceOperation, Scheme, legacy, resource_drop, resource_new, resource_rep, standard}
use Rattle.wc_names.specs.Texts.{IsOneOf}
use Rattle.wc_names.specs.Views.{Builtin, ImportView, adapter_export, context_get, context_set, main_module_export, waitable_set_poll, waitable_set_wait}
use Rattle.wc_names.specs.WitIntrinsics.{IsWitIntrinsic, WitIntrinsic, no_task_return, of_async_value, of_resource, resource_row, task_cancel, task_return}
use Rattle.wc_names.proofs.SameButIndicesLemmas.{of_same_function, of_same_memory, func_types_same, same_kinds, val_types_same}
use Rattle.wc_names.proofs.SearchLemmas.{first_carried, first_kind}

abbrev pub import_of : List ℕ → List ℕ → ExternType → CoreImport
import_of from name ty = record { from = from; name = name; ty = ty }

abbrev function_of : List ℕ → List ℕ → FuncTypeValue → CoreFunction
function_of from name ty = record { from = from; name = name; ty = ty }

-- what means something is not refused
not_refused : (b : Bool) (i v : ImportView) (required : Option FuncTypeValue) → (if b then refuses typed_reference else means i None) ≡ means v required
    → b ≡ false
not_refused true i v required h = absurd (let bad : ⊥ = cc h in bad)
not_refused false i v required h = refl

-- functions of the environment

abbrev AreSameFuncTypesButIndices : FuncTypeValue → FuncTypeValue → Type 0
AreSameFuncTypesButIndices t u = renumber_func_type no_indices t ≡ renumber_func_type no_indices u

abbrev value_types : EnvironmentFunction → FuncTypeValue → List ValType
value_types f t = map (renumber_val_type no_indices) ((environment_row f).types t)

same_value_types : (f : EnvironmentFunction) (t u : FuncTypeValue) → AreSameFuncTypesButIndices t u → value_types f t ≡ value_types f u
same_value_types get_stack_pointer t u but_indices = ap (λ (g : FuncTypeValue). g.results) but_indices
same_value_types set_stack_pointer t u but_indices = ap (λ (g : FuncTypeValue). g.params) but_indices
same_value_types get_tls_base t u but_indices = ap (λ (g : FuncTypeValue). g.results) but_indices
same_value_types set_tls_base t u but_indices = ap (λ (g : FuncTypeValue). g.params) but_indices

abbrev HasSameFirstButIndices : ValType → List ValType → Type 0
HasSameFirstButIndices t us = (u : ValType) × (rest : List ValType) × (us ≡ u ∷ rest) × (renumber_val_type no_indices t ≡ renumber_val_type no_indices u)

same_first : (t : ValType) (ts us : List ValType) → map (renumber_val_type no_indices) (t ∷ ts) ≡ map (renumber_val_type no_indices) us
    → HasSameFirstButIndices t us
same_first t ts [] h = absurd (let bad : ⊥ = cc h in bad)
same_first t ts (u ∷ us) h = (u, us, refl, (let first : renumber_val_type no_indices t ≡ renumber_val_type no_indices u = cc h in first))

value_type_is : (f : EnvironmentFunction) (t : ValType) → environment_type ((environment_row f).meaning t) ≡ Some t
value_type_is get_stack_pointer t = refl
value_type_is set_stack_pointer t = refl
value_type_is get_tls_base t = refl
value_type_is set_tls_base t = refl

-- a name of the environment is one for the other type too; for the same import, where its value's type names no type
abbrev HasEnvironment : Scheme → List ℕ → FuncTypeValue → ImportView → Type 0
HasEnvironment s name u i = (j : ImportView) × NamesEnvironment s name u j × (names_value_type i ≡ false → i ≡ j)

same_environment : (s : Scheme) (name : List ℕ) (t u : FuncTypeValue) (i : ImportView) → AreSameFuncTypesButIndices t u → NamesEnvironment s name t i
    → HasEnvironment s name u i
same_environment standard name t u i but_indices h = absurd h
same_environment (legacy hook) name t u i but_indices h =
    let f = h.0 in
    let first = same_first h.1 h.2 ((environment_row f).types u) (ap (map (renumber_val_type no_indices)) (sym h.4) ∙ same_value_types f t u but_indices) in (
      (environment_row f).meaning first.0,
      (f, first.0, first.1, h.3, first.2, refl),
      λ plain.
          let own : names_type h.1 ≡ false = sym (ap names_value_type h.5 ∙ ap (λ z. is_some (option_and_then type_index z)) (value_type_is f h.1)) ∙ plain in
          h.5 ∙ ap (environment_row f).meaning (val_types_same h.1 first.0 first.3 (none_of_false (type_index h.1) own)),
    )

module _ (e : NameScope) where
  kind_kept : (s : Scheme) (from name : List ℕ) (t u : FuncTypeValue) → AreSameFuncTypesButIndices t u
      → (k : Kind) (i : ImportView) (required : Option FuncTypeValue)
      → IsKind s e (function_of from name t) k (means i required) → IsKind s e (function_of from name u) k (means i required)
  kind_kept s from name t u but_indices environment i required x =
      let of = same_environment s name t u x.1 but_indices x.2 in
      (x.0, of.0, of.1, x.3 ∙ ap environment_meaning (of.2 (not_refused (names_value_type x.1) x.1 i required (sym x.3))))
  kind_kept s from name t u but_indices k i required x = x

  kind_there : (s : Scheme) (from name : List ℕ) (t u : FuncTypeValue) → AreSameFuncTypesButIndices t u → (k : Kind) (m : Meaning)
      → IsKind s e (function_of from name t) k m
      → (n : Meaning) × IsKind s e (function_of from name u) k n
  kind_there s from name t u but_indices environment m x =
      let of = same_environment s name t u x.1 but_indices x.2 in (environment_meaning of.0, (x.0, of.0, of.1, refl))
  kind_there s from name t u but_indices k m x = (m, x)

  module _ (from name : List ℕ) where
    rule_kept : (t u : ExternType) → AreSameButIndices t u → (k : Rule) (i : ImportView) (required : Option FuncTypeValue)
        → IsRule e (import_of from name t) k (means i required) → IsRule e (import_of from name u) k (means i required)
    rule_kept t u but_indices main_memory i required x = (x.0, x.1, x.2, of_same_memory t u x.2 but_indices x.3, x.4)
    rule_kept t u but_indices main_item i required x = (x.0, x.1 ∙ ap (λ z. means (main_module_export name z) None) (same_kinds t u but_indices))
    rule_kept t u but_indices not_function i required x = absurd (let bad : ⊥ = cc x.1 in bad)
    rule_kept t u but_indices adapter_function i required x =
        let of = of_same_function t u x.1 but_indices x.2 in
        let same = func_types_same x.1 of.0 of.2 (not_refused (names_types x.1) (adapter_export from name x.1) i required (sym x.3)) in
        (x.0, of.0, of.1, x.3 ∙ ap (adapter_meaning from name) same)
    rule_kept t u but_indices (by_scheme k) i required x =
        let of = of_same_function t u x.0 but_indices x.3 in
        (of.0, x.1, x.2, of.1, x.4, kind_kept x.1 x.2 name x.0 of.0 of.2 k i required x.5)

    not_function_too : (t u : ExternType) → AreSameButIndices t u → ¬ IsFunction t → ¬ IsFunction u
    not_function_too t u but_indices none f = let of = of_same_function u t f.0 (sym but_indices) f.1 in none (of.0, of.1)

    rule_there : (t u : ExternType) → AreSameButIndices t u → (k : Rule) (m : Meaning) → IsRule e (import_of from name t) k m
        → (n : Meaning) × IsRule e (import_of from name u) k n
    rule_there t u but_indices main_memory m x = (m, (x.0, x.1, x.2, of_same_memory t u x.2 but_indices x.3, x.4))
    rule_there t u but_indices main_item m x = (means (main_module_export name (extern_kind u)) None, (x.0, refl))
    rule_there t u but_indices not_function m x = (m, (not_function_too t u but_indices x.0, x.1))
    rule_there t u but_indices adapter_function m x =
        let of = of_same_function t u x.1 but_indices x.2 in (adapter_meaning from name of.0, (x.0, of.0, of.1, refl))
    rule_there t u but_indices (by_scheme k) m x =
        let of = of_same_function t u x.0 but_indices x.3 in
        let kind = kind_there x.1 x.2 name x.0 of.0 of.2 k m x.5 in
        (kind.0, (of.0, x.1, x.2, of.1, x.4, kind.1))

    -- an import that means something means the same with the indices of another module
    pub meaning_kept : (t u : ExternType) (i : ImportView) (required : Option FuncTypeValue) → AreSameButIndices t u
        → Classified e (import_of from name t) (means i required) → Classified e (import_of from name u) (means i required)
    meaning_kept t u i required but_indices =
        first_carried (IsRule e (import_of from name t)) (IsRule e (import_of from name u)) rules (means i required)
        (λ k. rule_kept t u but_indices k i required)
        (λ k. rule_there u t (sym but_indices) k)

-- signatures that names fix

abbrev IsPlain : Meaning → Type 0
IsPlain (means i (Some ty)) = names_types ty ≡ false
IsPlain (means i None) = Unit {0}
IsPlain (refuses why) = Unit {0}

flat_plain : (t : WasmType) → names_type (val_type t) ≡ false
flat_plain flat.I32 = refl
flat_plain flat.I64 = refl
flat_plain flat.F32 = refl
flat_plain flat.F64 = refl
flat_plain flat.Pointer = refl
flat_plain flat.PointerOrI64 = refl
flat_plain flat.Length = refl

flats_plain : (ts : List WasmType) → list_any names_type (map val_type ts) ≡ false
flats_plain [] = refl
flats_plain (t ∷ ts) = rw (flat_plain t) (flats_plain ts)

pub signature_plain : (s : SignatureView) → names_types (signature_type s) ≡ false
signature_plain s = rw (flats_plain s.params, flats_plain s.results) refl

pub function_plain : (r : ResolveView) (abi : AbiVariant) (f : FunctionView) → names_types (function_type r abi f) ≡ false
function_plain r abi f = signature_plain (flatten_functype (flat_of r.types) abi f)

pointer_plain : (t : ValType) (m : List ℕ) → IsOneOf (pointer_suffixes t) m → names_type t ≡ false
pointer_plain (TypeRef nullable index) m h = absurd h
pointer_plain t m h = refl

slot_plain : (t : ValType) (m : List ℕ) → IsOneOf (slot_prefixes t) m → names_type t ≡ false
slot_plain (TypeRef nullable index) m h = absurd h
slot_plain t m h = refl

builtin_plain : (s : Scheme) (b : Builtin) (name : List ℕ) → NamesBuiltin s b name → names_types (builtin_type b) ≡ false
builtin_plain standard b name h = absurd h
builtin_plain (legacy hook) (waitable_set_wait t) name h = rw (pointer_plain t h.0 h.1) refl
builtin_plain (legacy hook) (waitable_set_poll t) name h = rw (pointer_plain t h.0 h.1) refl
builtin_plain (legacy hook) (context_get t n) name h = rw (slot_plain t h.0 h.2) refl
builtin_plain (legacy hook) (context_set t n) name h = rw (slot_plain t h.0 h.2) refl
builtin_plain (legacy hook) b name h = refl

resource_plain : (imported : Bool) (op : ResourceOperation) → names_types (resource_row imported op).ty ≡ false
resource_plain true op = refl
resource_plain false resource_drop = refl
resource_plain false resource_new = refl
resource_plain false resource_rep = refl

operation_plain : (v : AsyncValue) (op : Operation) → names_types (operation_row v op).ty ≡ false
operation_plain Future Read = refl
operation_plain Stream Read = refl
operation_plain Future Write = refl
operation_plain Stream Write = refl
operation_plain v op = refl

meaning_plain : (b : Bool) (i : ImportView) → IsPlain (if b then refuses typed_reference else means i None)
meaning_plain true i = tt
meaning_plain false i = tt

module _ (s : Scheme) (r : ResolveView) (w : WorldView) (imported : Bool) (scope : Scope) (name : List ℕ) where
  intrinsic_plain : (k : WitIntrinsic) (m : Meaning) → IsWitIntrinsic s r w imported scope name k m → IsPlain m
  intrinsic_plain (of_resource op) m x = subst IsPlain (sym x.4) (resource_plain imported op)
  intrinsic_plain task_return m x = subst IsPlain (sym x.4) tt
  intrinsic_plain no_task_return m x = subst IsPlain (sym x.3) tt
  intrinsic_plain task_cancel m x = subst IsPlain (sym x.1) refl
  intrinsic_plain of_async_value m x = subst IsPlain (sym x.5) (operation_plain x.0 x.1)

module _ (e : NameScope) where
  kind_plain : (s : Scheme) (c : CoreFunction) (k : Kind) (m : Meaning) → IsKind s e c k m → IsPlain m
  kind_plain s c root_builtin m x = subst IsPlain (sym x.3) (builtin_plain s x.1 c.name x.2)
  kind_plain s c root_function m x = subst IsPlain (sym x.6) (function_plain e.resolve _ x.3)
  kind_plain s c (root_intrinsic k) m x = intrinsic_plain s e.resolve e.world true world_scope c.name k m x.1
  kind_plain s c root_other_item m x = subst IsPlain (sym x.5) tt
  kind_plain s c root_unknown m x = subst IsPlain (sym x.1) tt
  kind_plain s c environment m x = subst IsPlain (sym x.3) (meaning_plain (names_value_type x.1) x.1)
  kind_plain s c (export_root_intrinsic k) m x = intrinsic_plain s e.resolve e.world false world_scope c.name k m x.1
  kind_plain s c without_prefix m x = subst IsPlain (sym x.1) tt
  kind_plain s c export_unknown m x = subst IsPlain (sym x.3) tt
  kind_plain s c (export_intrinsic k) m x = intrinsic_plain s e.resolve e.world false (scope_of x.0) c.name k m x.2
  kind_plain s c export_other_name m x = subst IsPlain (sym x.2) tt
  kind_plain s c interface_unknown m x = subst IsPlain (sym x.3) tt
  kind_plain s c interface_function m x = subst IsPlain (sym x.7) (function_plain e.resolve _ x.3)
  kind_plain s c (interface_intrinsic k) m x = intrinsic_plain s e.resolve e.world true (scope_of x.0) c.name k m x.2
  kind_plain s c interface_other_name m x = subst IsPlain (sym x) tt

  rule_plain : (a : CoreImport) (k : Rule) (m : Meaning) → IsRule e a k m → IsPlain m
  rule_plain a main_memory m x = subst IsPlain (sym x.4) tt
  rule_plain a main_item m x = subst IsPlain (sym x.1) tt
  rule_plain a not_function m x = subst IsPlain (sym x.1) tt
  rule_plain a adapter_function m x = subst IsPlain (sym x.3) (meaning_plain (names_types x.1) (adapter_export a.from a.name x.1))
  rule_plain a (by_scheme k) m x = kind_plain x.1 (function_of x.2 a.name x.0) k m x.5

  pub fixed_plain : (a : CoreImport) (i : ImportView) (ty : FuncTypeValue) → Classified e a (means i (Some ty)) → names_types ty ≡ false
  fixed_plain a i ty x = let found = first_kind (IsRule e a) rules (means i (Some ty)) x in rule_plain a found.0 (means i (Some ty)) found.1
