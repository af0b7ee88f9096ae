-- Kinds of exports: what refutes each, and what makes it.
use Rattle.std.proofs.Common.{◌≡◌, ℕ, true, false, true≢false, List, [], ◌∷◌, ◌++◌, map, Option, Some, None, Result, Ok, inl, inr, refl, sym, ap, ◌∙◌, subst}
use Rattle.std.proofs.lemmas.List.{append_cancel_left}
use Rattle.wc_read.specs.declared.types.GlobalType.{GlobalType}
use Rattle.wc_read.specs.declared.types.MemoryType.{MemoryType}
use Rattle.wc_read.specs.declared.types.TableType.{TableType}
use Rattle.wc_read.specs.Types.{FuncTypeValue}
use Rattle.wc_resolve.specs.declared.functions.AbiVariant.{AbiVariant}
use Rattle.wc_resolve.specs.Views.{KeyView}
use Rattle.wc_resolve.specs.WellFormed.{IsUsable, IsWellFormed}
use Rattle.wc_names.specs.declared.export_names.ExportSyntax.{ExportSyntax}
use Rattle.wc_names.specs.Builtins.{signature}
use Rattle.wc_names.specs.ExportIndex.{ExportNamesView}
use Rattle.wc_names.specs.ExportNames.{ExportTarget, HasFunction, NamesDestructor, NamesFunctionExport, IsExportedFunction, export_syntax, searched_interfaces}
use Rattle.wc_names.specs.ExportViews.{export_view, resource_dtor}
use Rattle.wc_names.specs.declared.exports.Export.{Export}
use Rattle.wc_names.specs.Exports.{AnyTypeName, ClassifiedExport, ExportKind, ExportMeaning, ExportRule, IsExportKind, IsExportReadBy, IsExportRule, IsLifted, NamesTarget, any_type, any_type_row, by_export_scheme, callback, export_kinds, export_rules, callback_export, callback_type, destructor, function, function_export, function_table, is_export, memory, post_return, post_return_export, post_return_type}
use Rattle.wc_names.specs.Imports.{ExternType, IsFunction, NameScope, func_type, function_type, global_type, memory_type, table_type}
use Rattle.wc_names.specs.Mangling.{Scheme, NamesCallback, NamesPostReturn, function_table_name, marker, memory_name}
use Rattle.wc_names.proofs.RangeLemmas.{function_usable}
use Rattle.wc_names.specs.First.{FirstOf}
use Rattle.wc_names.proofs.SearchLemmas.{NoneOf, first_kind, not_first}
use Rattle.wc_validate.specs.declared.name_fault.NameFault.{NameFault}
use Rattle.wc_validate.specs.Exports.Contexts.{core_export}
use Rattle.wc_validate.specs.Private.Exports.Classify.{AreNamesBy, MeansExport, named_kinds, fixed_kinds, IsExportClassified}
use Rattle.wc_validate.specs.NameScope.{HasItsWorld}
use Rattle.wc_read.specs.declared.types.ValType.TheVariants.{I32}
use Rattle.wc_validate.proofs.ImportRootLemmas.{first_mapped, first_unmapped, none_mapped}
use Rattle.wc_validate.proofs.ClassificationLemmas.{classified_as, classified_nothing, classified_unchecked, group_skipped}
use Rattle.wc_validate.specs.Classifications.{of_exports}
use Rattle.wc_validate.specs.Fault.{fault_kind}
use Rattle.wc_names.proofs.ExportMeaningLemmas.{lifted_unique, returned_unique, called_back_unique as called_unique}

-- what is no function is of no kind of functions
pub no_function : (s : Scheme) (e : NameScope) (keys : List KeyView) (name : List ℕ) (ty : ExternType) → ¬ IsFunction ty
    → NoneOf (IsExportKind s e keys name ty) (fixed_kinds ++ named_kinds)
no_function s e keys name ty other = (
  λ m h. other (h.0, h.1),
  (
    λ m h. other (h.0, h.1),
    (
      λ m h. other (h.0, h.1),
      (
        λ m h. other
            (h.0, h.4),
        (λ m h. other (h.0, h.5), (λ m h. other (h.0, h.3), (λ m h. other (h.0, h.4), tt))),
      ),
    ),
  ),
)

-- a function is no memory and no table
pub no_other : (s : Scheme) (e : NameScope) (keys : List KeyView) (name : List ℕ) (t : FuncTypeValue)
    → NoneOf (IsExportKind s e keys name (func_type t)) (memory ∷ function_table ∷ [])
no_other s e keys name t = (λ m h. memory_is h.0 h.1, (λ m h. table_is h.0 h.1, tt)) where
  memory_is : (u : _) → func_type t ≡ memory_type u → ⊥
  memory_is u e = cc e

  table_is : (u : _) → func_type t ≡ table_type u → ⊥
  table_is u e = cc e

module _ (s : Scheme) (e : NameScope) (names : ExportNamesView) (by : AreNamesBy s e names) where
  -- the look-ups of an export set are those of the scope
  target_here : (text : List ℕ) (f : ExportTarget) → NamesFunctionExport names.syntax names.resolve names.exports names.keys text f
      → NamesTarget s e names.keys text f
  target_here text f h = subst (λ (z : ExportNamesView). NamesFunctionExport z.syntax z.resolve z.exports z.keys text f) by h

  target_there : (text : List ℕ) (f : ExportTarget) → NamesTarget s e names.keys text f
      → NamesFunctionExport names.syntax names.resolve names.exports names.keys text f
  target_there text f h = subst (λ (z : ExportNamesView). NamesFunctionExport z.syntax z.resolve z.exports z.keys text f) (sym by) h

  destructed_here : (text : List ℕ) (t : ℕ) → NamesDestructor names.syntax names.resolve names.exports names.keys text t
      → NamesDestructor (export_syntax s) e.resolve e.world.exports names.keys text t
  destructed_here text t h = subst (λ (z : ExportNamesView). NamesDestructor z.syntax z.resolve z.exports z.keys text t) by h

  destructed_there : (text : List ℕ) (t : ℕ) → NamesDestructor (export_syntax s) e.resolve e.world.exports names.keys text t
      → NamesDestructor names.syntax names.resolve names.exports names.keys text t
  destructed_there text t h = subst (λ (z : ExportNamesView). NamesDestructor z.syntax z.resolve z.exports z.keys text t) (sym by) h

module _ (s : Scheme) (e : NameScope) (names : ExportNamesView) (by : AreNamesBy s e names) (name : List ℕ) (t : FuncTypeValue) where
  abbrev KindHere : ExportKind → ExportMeaning → Type 0
  KindHere = IsExportKind s e names.keys name (func_type t)

  module _ (abi : AbiVariant) (rest : List ℕ) (is_lifted : IsLifted s name abi rest) where
    same_rest : (b : AbiVariant) (other : List ℕ) → IsLifted s name b other → other ≡ rest
    same_rest b other h = (lifted_unique s name b abi other rest h is_lifted).1

    pub is_function_of : (f : ExportTarget) → NamesFunctionExport names.syntax names.resolve names.exports names.keys rest f
        → KindHere function (is_export (function_export abi f) (Some (function_type e.resolve abi f.function)))
    is_function_of f h = (t, abi, rest, f, refl, is_lifted, target_here s e names by rest f h, refl)

    pub no_function_of : ((f : ExportTarget) → ¬ NamesFunctionExport names.syntax names.resolve names.exports names.keys rest f) → (m : ExportMeaning)
        → ¬ KindHere function m
    no_function_of none m h = none h.3 (target_there s e names by rest h.3 (subst (λ z. NamesTarget s e names.keys z h.3) (same_rest h.1 h.2 h.5) h.6))

    pub is_post_return_of : (returned : List ℕ) (f : ExportTarget) → NamesPostReturn s returned rest
        → NamesFunctionExport names.syntax names.resolve names.exports names.keys returned f
        → KindHere post_return (is_export (post_return_export f) (Some (post_return_type e.resolve f.function)))
    is_post_return_of returned f returns h = (t, abi, rest, returned, f, refl, is_lifted, returns, target_here s e names by returned f h, refl)

    pub no_post_return : ((returned : List ℕ) → ¬ NamesPostReturn s returned rest) → (m : ExportMeaning) → ¬ KindHere post_return m
    no_post_return none m h = none h.3 (subst (NamesPostReturn s h.3) (same_rest h.1 h.2 h.6) h.7)

    pub no_post_return_of : (returned : List ℕ) → NamesPostReturn s returned rest
        → ((f : ExportTarget) → ¬ NamesFunctionExport names.syntax names.resolve names.exports names.keys returned f) → (m : ExportMeaning)
        → ¬ KindHere post_return m
    no_post_return_of returned returns none m h =
        let same : h.3 ≡ returned = returned_unique s rest h.3 returned (subst (NamesPostReturn s h.3) (same_rest h.1 h.2 h.6) h.7) returns in
        none h.4 (target_there s e names by returned h.4 (subst (λ z. NamesTarget s e names.keys z h.4) same h.8))

    pub is_destructor_of : (resource : ℕ) → NamesDestructor names.syntax names.resolve names.exports names.keys rest resource
        → KindHere destructor (is_export (resource_dtor resource) (Some (signature (I32 ∷ []) [])))
    is_destructor_of resource h = (t, abi, rest, resource, refl, is_lifted, destructed_here s e names by rest resource h, refl)

    pub no_destructor : ((resource : ℕ) → ¬ NamesDestructor names.syntax names.resolve names.exports names.keys rest resource) → (m : ExportMeaning)
        → ¬ KindHere destructor m
    no_destructor none m h =
        none h.3 (destructed_there s e names by rest h.3 (subst (λ z. NamesDestructor (export_syntax s) e.resolve e.world.exports names.keys z h.3)
        (same_rest h.1 h.2 h.5) h.6))

  pub is_callback_of : (called : List ℕ) (f : ExportTarget) → NamesCallback s called name
      → NamesFunctionExport names.syntax names.resolve names.exports names.keys called f
      → KindHere callback (is_export (callback_export f) (Some callback_type))
  is_callback_of called f calls h = (t, called, f, refl, calls, target_here s e names by called f h, refl)

  pub no_callback : ((called : List ℕ) → ¬ NamesCallback s called name) → (m : ExportMeaning) → ¬ KindHere callback m
  no_callback none m h = none h.1 h.4

  pub no_callback_of : (called : List ℕ) → NamesCallback s called name
      → ((f : ExportTarget) → ¬ NamesFunctionExport names.syntax names.resolve names.exports names.keys called f) → (m : ExportMeaning) → ¬ KindHere callback m
  no_callback_of called calls none m h =
      let same : h.1 ≡ called = called_unique s name h.1 called h.4 calls in
      none h.2 (target_there s e names by called h.2 (subst (λ z. NamesTarget s e names.keys z h.2) same h.5))

-- the function that an export is for can be used
module _ (e : NameScope) (formed : IsWellFormed e.resolve) (world : HasItsWorld e) where
  usable_in : (x : ExportSyntax) (keys : List KeyView) (interface : Option (List ℕ)) (name : List ℕ) (f : ExportTarget)
      → IsExportedFunction x e.resolve e.world.exports keys interface name f → IsUsable e.resolve f.function
  usable_in x keys None name f h =
      subst (λ (z : ExportTarget). IsUsable e.resolve z.function) (sym h.3) (function_usable e.resolve formed world.0 e.world world.1 false None name h.1 h.2)
  usable_in x keys (Some text) name f h =
      let found = first_kind (HasFunction e.resolve name) (searched_interfaces x e.resolve e.world.exports keys text) f h in
      subst (λ (z : ExportTarget). IsUsable e.resolve z.function) (sym found.1.2)
      (function_usable e.resolve formed world.0 e.world world.1 false (Some found.0.1) name found.1.0 found.1.1)

  pub target_usable : (s : Scheme) (names : ExportNamesView) → AreNamesBy s e names → (text : List ℕ) (f : ExportTarget)
      → NamesFunctionExport names.syntax names.resolve names.exports names.keys text f → IsUsable e.resolve f.function
  target_usable s names by text f h = let there = target_here s e names by text f h in usable_in (export_syntax s) names.keys there.0 there.1 f there.3

-- what a scheme names, if it names it
pub some_is : {o : Option (List ℕ)} (a b : List ℕ) → Some a ≡ o → o ≡ Some b → a ≡ b
some_is a b there is = let both : Some a ≡ Some b = there ∙ is in cc both

-- one scheme reads a name
export_read_unique : (e : NameScope) (text : List ℕ) (s t : Scheme) (a b : List ℕ) → IsExportReadBy e text s a → IsExportReadBy e text t b → (s ≡ t) × (a ≡ b)
export_read_unique e text s t a b (inl x) (inl y) = (x.1 ∙ sym y.1, append_cancel_left marker a b (sym x.0 ∙ y.0))
export_read_unique e text s t a b (inl x) (inr y) = absurd (y.0 a x.0)
export_read_unique e text s t a b (inr x) (inl y) = absurd (x.0 b y.0)
export_read_unique e text s t a b (inr x) (inr y) = (x.3 ∙ sym y.3, x.2 ∙ sym y.2)

-- all rules of exports, by the scheme that reads the name
module _ (e : NameScope) (keys : List KeyView) (text : List ℕ) (ty : ExternType) where
  abbrev RuleHere : ExportRule → ExportMeaning → Type 0
  RuleHere = IsExportRule e keys (core_export text ty)

  pub by_any_type : (x : Export) (row : AnyTypeName) → text ≡ (any_type_row row).text → export_view x ≡ (any_type_row row).export
      → IsExportClassified (ClassifiedExport e keys (core_export text ty)) ty (Ok (Some x))
  by_any_type x row named is = classified_unchecked of_exports fault_kind (FirstOf RuleHere export_rules) x ty (inl (row, named, ap (λ z. is_export z None) is))

  module _ (none : (row : AnyTypeName) → ¬ (text ≡ (any_type_row row).text)) where
    no_any_type : (m : ExportMeaning) → ¬ RuleHere any_type m
    no_any_type m h = none h.0 h.1

    pub by_scheme_read : (s : Scheme) (name : List ℕ) (r : Result (Option Export) NameFault) → IsExportReadBy e text s name
        → IsExportClassified (MeansExport s e keys export_kinds name ty) ty r
        → IsExportClassified (ClassifiedExport e keys (core_export text ty)) ty r
    by_scheme_read s name r read v =
        group_skipped of_exports fault_kind RuleHere (any_type ∷ []) (map by_export_scheme export_kinds) ty r (no_any_type, tt)
        (classified_as of_exports fault_kind (FirstOf (IsExportKind s e keys name ty) export_kinds) (FirstOf RuleHere (map by_export_scheme export_kinds)) ty r
        (λ m f. first_mapped (IsExportKind s e keys name ty) RuleHere by_export_scheme to from export_kinds m f)
        (λ m f. first_unmapped (IsExportKind s e keys name ty) RuleHere by_export_scheme to from export_kinds m f) v) where
          to : (k : ExportKind) (m : ExportMeaning) → IsExportKind s e keys name ty k m → RuleHere (by_export_scheme k) m
          to k m h = (s, name, read, h)

          from : (k : ExportKind) (m : ExportMeaning) → RuleHere (by_export_scheme k) m → IsExportKind s e keys name ty k m
          from k m h =
              let same = export_read_unique e text h.0 s h.1 name h.2 read in
              subst (λ z. IsExportKind z e keys name ty k m) same.0 (subst (λ z. IsExportKind h.0 e keys z ty k m) same.1 h.3)

    -- no scheme reads it
    pub by_none : ((s : Scheme) (name : List ℕ) → ¬ IsExportReadBy e text s name)
        → IsExportClassified (ClassifiedExport e keys (core_export text ty)) ty (Ok None)
    by_none unread =
        classified_nothing of_exports fault_kind (FirstOf RuleHere export_rules) ty (λ m f. not_first RuleHere export_rules m
        (no_any_type, none_mapped RuleHere by_export_scheme (λ k m h. unread h.0 h.1 h.2) export_kinds) f)

-- a memory, a table or a global is nothing else
module _ (s : Scheme) (e : NameScope) (keys : List KeyView) (name : List ℕ) where
  pub no_memory : (ty : MemoryType) → ¬ (name ≡ memory_name s) → (m : ExportMeaning) → ¬ MeansExport s e keys export_kinds name (memory_type ty) m
  no_memory ty other m f =
      not_first (IsExportKind s e keys name (memory_type ty)) export_kinds m (
        λ m h. other h.2,
        (
          λ m h. (let same : memory_type ty ≡ table_type h.0 = h.1 in let bad : ⊥ = cc same in bad),
          no_function s e keys name (memory_type ty)
              (λ h. let same : memory_type ty ≡ func_type h.0 = h.1 in let bad : ⊥ = cc same in bad),
        ),
      ) f

  pub no_memory_table : (ty : TableType) (m : ExportMeaning) → ¬ IsExportKind s e keys name (table_type ty) memory m
  no_memory_table ty m h = let same : table_type ty ≡ memory_type h.0 = h.1 in let bad : ⊥ = cc same in bad

  pub no_table : (ty : TableType) → ¬ (function_table_name s ≡ Some name) → (m : ExportMeaning) → ¬ MeansExport s e keys export_kinds name (table_type ty) m
  no_table ty other m f =
      not_first (IsExportKind s e keys name (table_type ty)) export_kinds m (
        no_memory_table ty,
        (
          λ m h. other h.2,
          no_function s e keys name (table_type ty)
              (λ h. let same : table_type ty ≡ func_type h.0 = h.1 in let bad : ⊥ = cc same in bad),
        ),
      ) f

  pub no_global : (ty : GlobalType) (m : ExportMeaning) → ¬ MeansExport s e keys export_kinds name (global_type ty) m
  no_global ty m f =
      not_first (IsExportKind s e keys name (global_type ty)) export_kinds m (
        λ m h. (let same : global_type ty ≡ memory_type h.0 = h.1 in let bad : ⊥ = cc same in bad),
        (
          λ m h. (let same : global_type ty ≡ table_type h.0 = h.1 in let bad : ⊥ = cc same in bad),
          no_function s e keys name (global_type ty)
              (λ h. let same : global_type ty ≡ func_type h.0 = h.1 in let bad : ⊥ = cc same in bad),
        ),
      ) f

-- where legacy names are rejected, no scheme reads a name without the marker
pub legacy_rejected : (e : NameScope) (text : List ℕ) → ((rest : List ℕ) → ¬ (text ≡ marker ++ rest)) → e.reject_legacy_names ≡ true
    → (s : Scheme) (name : List ℕ) → ¬ IsExportReadBy e text s name
legacy_rejected e text unmarked rejected s name (inl h) = unmarked name h.0
legacy_rejected e text unmarked rejected s name (inr h) = true≢false (sym rejected ∙ h.1)
