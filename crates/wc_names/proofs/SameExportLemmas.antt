-- What an export means does not depend on the indices by which its type names types, and a signature that a name fixes
-- has none.
use Rattle.std.proofs.Common.{◌≡◌, ℕ, false, List, refl, sym, subst, Some, None, Option}
use Rattle.std.specs.List.{list_any}
use Rattle.std.proofs.lemmas.Bool.{or_parts}
use Rattle.wc_read.specs.Types.{FuncTypeValue, names_type, names_types}
use Rattle.wc_resolve.specs.declared.functions.AbiVariant.TheVariants.{GuestExport}
use Rattle.wc_resolve.specs.Views.{FunctionView, KeyView}
use Rattle.wc_resolve.specs.Kinds.{ResolveView}
use Rattle.wc_names.specs.SameButIndices.{AreSameButIndices}
use Rattle.wc_names.specs.Exports.{ClassifiedExport, CoreExport, ExportKind, ExportMeaning, ExportRule, IsExportKind, IsExportRule, any_type, by_export_scheme, callback, destructor, export_rules, function, function_table, initializer, memory, post_return, post_return_type, realloc, task_hook}
use Rattle.wc_names.specs.Imports.{ExternType, NameScope, function_type}
use Rattle.wc_names.specs.Mangling.{Scheme}
use Rattle.wc_names.proofs.SameMeaningLemmas.{function_plain}
use Rattle.wc_names.proofs.SameButIndicesLemmas.{of_same_function, of_same_memory, of_same_table}
use Rattle.wc_names.proofs.SearchLemmas.{first_carried, first_kind}

abbrev export_of : List ℕ → ExternType → CoreExport
export_of name ty = record { name = name; ty = ty }

module _ (e : NameScope) (keys : List KeyView) where
  same_kind : (s : Scheme) (name : List ℕ) (t u : ExternType) → AreSameButIndices t u → (k : ExportKind) (m : ExportMeaning) → IsExportKind s e keys name t k m
      → IsExportKind s e keys name u k m
  same_kind s name t u but_indices memory m x = (x.0, of_same_memory t u x.0 but_indices x.1, x.2, x.3)
  same_kind s name t u but_indices function_table m x = let of = of_same_table t u x.0 but_indices x.1 in (of.0, of.1, x.2, x.3)
  same_kind s name t u but_indices realloc m x = let of = of_same_function t u x.0 but_indices x.1 in (of.0, of.1, x.2, x.3)
  same_kind s name t u but_indices initializer m x = let of = of_same_function t u x.0 but_indices x.1 in (of.0, of.1, x.2, x.3)
  same_kind s name t u but_indices task_hook m x = let of = of_same_function t u x.0 but_indices x.1 in (of.0, of.1, x.2, x.3)
  same_kind s name t u but_indices function m x = let of = of_same_function t u x.0 but_indices x.4 in (of.0, x.1, x.2, x.3, of.1, x.5, x.6, x.7)
  same_kind s name t u but_indices post_return m x = let of = of_same_function t u x.0 but_indices x.5 in (of.0, x.1, x.2, x.3, x.4, of.1, x.6, x.7, x.8, x.9)
  same_kind s name t u but_indices callback m x = let of = of_same_function t u x.0 but_indices x.3 in (of.0, x.1, x.2, of.1, x.4, x.5, x.6)
  same_kind s name t u but_indices destructor m x = let of = of_same_function t u x.0 but_indices x.4 in (of.0, x.1, x.2, x.3, of.1, x.5, x.6, x.7)

  same_rule : (name : List ℕ) (t u : ExternType) → AreSameButIndices t u → (k : ExportRule) (m : ExportMeaning) → IsExportRule e keys (export_of name t) k m
      → IsExportRule e keys (export_of name u) k m
  same_rule name t u but_indices any_type m x = x
  same_rule name t u but_indices (by_export_scheme k) m x = (x.0, x.1, x.2, same_kind x.0 x.1 t u but_indices k m x.3)

  pub export_kept : (name : List ℕ) (t u : ExternType) (m : ExportMeaning) → AreSameButIndices t u → ClassifiedExport e keys (export_of name t) m
      → ClassifiedExport e keys (export_of name u) m
  export_kept name t u m but_indices =
      first_carried (IsExportRule e keys (export_of name t)) (IsExportRule e keys (export_of name u)) export_rules m (λ k. same_rule name t u but_indices k m)
      (λ k p h. (p, same_rule name u t (sym but_indices) k p h))

-- signatures that names fix

abbrev pub IsPlainType : Option FuncTypeValue → Type 0
IsPlainType (Some ty) = names_types ty ≡ false
IsPlainType None = Unit {0}

abbrev pub IsPlain : ExportMeaning → Type 0
IsPlain m = IsPlainType m.ty

returned_plain : (r : ResolveView) (f : FunctionView) → names_types (post_return_type r f) ≡ false
returned_plain r f =
    rw (or_parts (list_any names_type (function_type r GuestExport f).params) (list_any names_type (function_type r GuestExport f).results)
    (function_plain r GuestExport f)).1 refl

module _ (e : NameScope) (keys : List KeyView) where
  kind_plain : (s : Scheme) (name : List ℕ) (t : ExternType) (k : ExportKind) (m : ExportMeaning) → IsExportKind s e keys name t k m → IsPlain m
  kind_plain s name t memory m x = subst IsPlain (sym x.3) tt
  kind_plain s name t function_table m x = subst IsPlain (sym x.3) tt
  kind_plain s name t realloc m x = subst IsPlain (sym x.3) refl
  kind_plain s name t initializer m x = subst IsPlain (sym x.3) refl
  kind_plain s name t task_hook m x = subst IsPlain (sym x.3) refl
  kind_plain s name t function m x = subst IsPlain (sym x.7) (function_plain e.resolve x.1 (x.3).function)
  kind_plain s name t post_return m x = subst IsPlain (sym x.9) (returned_plain e.resolve (x.4).function)
  kind_plain s name t callback m x = subst IsPlain (sym x.6) refl
  kind_plain s name t destructor m x = subst IsPlain (sym x.7) refl

  rule_plain : (x : CoreExport) (k : ExportRule) (m : ExportMeaning) → IsExportRule e keys x k m → IsPlain m
  rule_plain x any_type m h = subst IsPlain (sym h.2) tt
  rule_plain x (by_export_scheme k) m h = kind_plain h.0 h.1 x.ty k m h.3

  pub fixed_export_plain : (x : CoreExport) (m : ExportMeaning) → ClassifiedExport e keys x m → IsPlain m
  fixed_export_plain x m h = let found = first_kind (IsExportRule e keys x) export_rules m h in rule_plain x found.0 m found.1
