-- Kinds of names of one interface, which is found by the module's name.
use Rattle.std.proofs.Common.{◌≡◌, ℕ, true, false, List, [], ◌∷◌, ◌++◌, map, Option, Some, Result, refl, sym, ap, subst, ◌∙◌}
use Rattle.std.proofs.lemmas.List.{append_cancel_left}
use Rattle.wc_read.specs.Types.{FuncTypeValue}
use Rattle.wc_resolve.specs.declared.functions.AbiVariant.{AbiVariant}
use Rattle.wc_resolve.specs.WellFormed.{IsWellFormed}
use Rattle.wc_names.specs.declared.imports.Import.{Import}
use Rattle.wc_names.specs.First.{FirstOf}
use Rattle.wc_names.specs.Imports.{NameScope, CoreFunction, export_unknown, export_intrinsic, export_other_name, interface_unknown, interface_function, interface_intrinsic, IsKind, IsExportModule, NamesExportedInterface, NamesImportedInterface, NamesFunctionAs, function_type, import_abi, scope_of}
use Rattle.wc_names.specs.Interfaces.{FoundInterface, NamesInterface}
use Rattle.wc_names.specs.Keys.{function_named}
use Rattle.wc_names.specs.Meanings.{Meaning, means}
use Rattle.wc_names.specs.Mangling.{Scheme, interface_prefix, export_prefix}
use Rattle.wc_validate.specs.Classifications.{FaultKind, IsImportClassification, of_imports}
use Rattle.wc_names.specs.Views.{interface_func}
use Rattle.wc_names.specs.WitIntrinsics.{wit_intrinsics, IsWitIntrinsic}
use Rattle.wc_names.proofs.MeaningLemmas.{function_unique, interface_unique}
use Rattle.wc_names.proofs.SearchLemmas.{NoneOf}
use Rattle.wc_validate.proofs.ClassificationLemmas.{classified_as}
use Rattle.wc_validate.specs.Private.Imports.Kinds.{MeansFunction, MeansIntrinsic, export_kinds, function_import}
use Rattle.wc_validate.specs.NameScope.{imported_function}
use Rattle.wc_validate.proofs.ImportRootLemmas.{lookup_scope_in, none_append, none_mapped, classified_mapped}

module _ {F : Type 0} (kind : F → FaultKind) (s : Scheme) (e : NameScope) (formed : IsWellFormed e.resolve) (text name : List ℕ) (ty : FuncTypeValue) where
  abbrev imported : CoreFunction
  imported = imported_function (interface_prefix s ++ text) name ty

  abbrev exported : CoreFunction
  exported = imported_function (interface_prefix s ++ (export_prefix s ++ text)) name ty

  same_text : (t : List ℕ) → interface_prefix s ++ text ≡ interface_prefix s ++ t → t ≡ text
  same_text t is = sym (append_cancel_left (interface_prefix s) text t is)

  same_export : (t : List ℕ) → interface_prefix s ++ (export_prefix s ++ text) ≡ interface_prefix s ++ (export_prefix s ++ t) → t ≡ text
  same_export t is =
      sym (append_cancel_left (export_prefix s) text t (append_cancel_left (interface_prefix s) (export_prefix s ++ text) (export_prefix s ++ t) is))

  module _ (found : FoundInterface) (is_found : NamesInterface s e.resolve e.world.imports text found) where
    only_import : (g : FoundInterface) → NamesImportedInterface s e (interface_prefix s ++ text) g → g ≡ found
    only_import g h =
        interface_unique e.resolve formed.distinct e.world.imports s text g found (subst (λ z. NamesInterface s e.resolve e.world.imports z g) (same_text h.0 h.1) h.2)
        is_found

    -- the interface is known
    pub import_known : (m : Meaning) → ¬ IsKind s e imported interface_unknown m
    import_known m h = h.2 found (subst (λ z. NamesInterface s e.resolve e.world.imports z found) (sym (same_text h.0 h.1)) is_found)

    -- the function of the interface that a name is of
    pub of_interface_function : (function : List ℕ) (abi : AbiVariant) (r : Result (Option Import) F) → NamesFunctionAs s function abi name
        → IsImportClassification kind (MeansFunction (lookup_scope_in e true (scope_of found)) function abi) ty r
        → IsImportClassification kind (IsKind s e imported interface_function) ty r
    of_interface_function function abi r named v = classified_as of_imports kind _ _ ty r (λ m h. to m h) (λ m h. from m h) v where
      to : (m : Meaning) → MeansFunction (lookup_scope_in e true (scope_of found)) function abi m → IsKind s e imported interface_function m
      to m h = (
        found,
        named.0,
        function,
        h.0,
        (text, refl, is_found),
        named.1,
        h.1,
        h.2 ∙ ap (λ z. means (function_import (scope_of found) function h.0.name z) (Some (function_type e.resolve z h.0))) named.2,
      )

      from : (m : Meaning) → IsKind s e imported interface_function m → MeansFunction (lookup_scope_in e true (scope_of found)) function abi m
      from m h =
          let same = function_unique s named.0 h.1 function h.2 name named.1 h.5 in
          let there : (function_named e.resolve e.world true (scope_of found) h.2 ≡ Some h.3)
          × (m ≡ means (interface_func found.0 found.1 h.3.name (import_abi h.1)) (Some (function_type e.resolve (import_abi h.1) h.3))) =
          subst (λ z. (function_named e.resolve e.world true (scope_of z) h.2 ≡ Some h.3)
          × (m ≡ means (interface_func z.0 z.1 h.3.name (import_abi h.1)) (Some (function_type e.resolve (import_abi h.1) h.3))))
          (only_import h.0 h.4) (h.6, h.7) in
          subst (λ z. MeansFunction (lookup_scope_in e true (scope_of found)) z abi m) (sym same.1) (
            h.3,
            there.0,
            there.1 ∙ ap (λ z. means (function_import (scope_of found) h.2 h.3.name z) (Some (function_type e.resolve z h.3)))
                (ap import_abi (sym same.0) ∙ sym named.2),
          )

    -- built-ins of the interface
    pub of_interface_intrinsics : (r : Result (Option Import) F)
        → IsImportClassification kind (MeansIntrinsic s (lookup_scope_in e true (scope_of found)) (wit_intrinsics true) name) ty r
        → IsImportClassification kind (FirstOf (IsKind s e imported) (map interface_intrinsic (wit_intrinsics true))) ty r
    of_interface_intrinsics r v =
        classified_mapped kind (IsWitIntrinsic s e.resolve e.world true (scope_of found) name) (IsKind s e imported) interface_intrinsic
        (λ k m h. (found, (text, refl, is_found), h))
        (λ k m h. subst (λ z. IsWitIntrinsic s e.resolve e.world true (scope_of z) name k m) (only_import h.0 h.1) h.2)
        (wit_intrinsics true) ty r v

  module _ (found : FoundInterface) (is_found : NamesInterface s e.resolve e.world.exports text found) where
    only_export : (g : FoundInterface) → NamesExportedInterface s e (interface_prefix s ++ (export_prefix s ++ text)) g → g ≡ found
    only_export g h =
        interface_unique e.resolve formed.distinct e.world.exports s text g found (subst (λ z. NamesInterface s e.resolve e.world.exports z g) (same_export h.0 h.1) h.2)
        is_found

    pub export_known : (m : Meaning) → ¬ IsKind s e exported export_unknown m
    export_known m h = h.2 found (subst (λ z. NamesInterface s e.resolve e.world.exports z found) (sym (same_export h.0 h.1)) is_found)

    pub of_export_intrinsics : (r : Result (Option Import) F)
        → IsImportClassification kind (MeansIntrinsic s (lookup_scope_in e false (scope_of found)) (wit_intrinsics false) name) ty r
        → IsImportClassification kind (FirstOf (IsKind s e exported) (map export_intrinsic (wit_intrinsics false))) ty r
    of_export_intrinsics r v =
        classified_mapped kind (IsWitIntrinsic s e.resolve e.world false (scope_of found) name) (IsKind s e exported) export_intrinsic
        (λ k m h. (found, (text, refl, is_found), h))
        (λ k m h. subst (λ z. IsWitIntrinsic s e.resolve e.world false (scope_of z) name k m) (only_export h.0 h.1) h.2)
        (wit_intrinsics false) ty r v

-- a module that is not of an export
pub no_export : (s : Scheme) (e : NameScope) (text name : List ℕ) (ty : FuncTypeValue) → ((t : List ℕ) → ¬ (text ≡ export_prefix s ++ t))
    → NoneOf (IsKind s e (imported_function (interface_prefix s ++ text) name ty)) export_kinds
no_export s e text name ty none = (
  (λ m h. none h.0 (at_prefix h.0 h.1)),
  none_append (IsKind s e (imported_function (interface_prefix s ++ text) name ty)) (map export_intrinsic (wit_intrinsics false)) (export_other_name ∷ [])
      (none_mapped (IsKind s e (imported_function (interface_prefix s ++ text) name ty)) export_intrinsic (λ k m h. none h.1.0 (at_prefix h.1.0 h.1.1))
      (wit_intrinsics false))
      ((λ m h. none h.0 (at_prefix h.0 h.1)), tt),
) where
  at_prefix : (t : List ℕ) → IsExportModule s (interface_prefix s ++ text) t → text ≡ export_prefix s ++ t
  at_prefix t is = append_cancel_left (interface_prefix s) text (export_prefix s ++ t) is
