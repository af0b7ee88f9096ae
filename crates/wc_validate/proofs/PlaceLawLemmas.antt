-- What has a place in a module has a cause.
use Rattle.std.proofs.Common.{ℕ, List, [], ◌∷◌, map, IsTrue, inl, inr, sym, subst}
use Rattle.wc_read.specs.Modules.{ModuleValue, SpellsModule}
use Rattle.wc_read.specs.Types.{FuncTypeValue}
use Rattle.wc_resolve.specs.Views.{KeyView}
use Rattle.wc_resolve.specs.Kinds.{ResolveView}
use Rattle.wc_adapters.specs.Entries.{Entries}
use Rattle.wc_names.specs.Exports.{CoreExport}
use Rattle.wc_names.specs.ExportViews.{ExportView}
use Rattle.wc_names.specs.Imports.{NameScope}
use Rattle.wc_validate.specs.declared.fault.ValidateFault.{ValidateFault}
use Rattle.wc_validate.specs.declared.fault.ValidateFault.TheVariants.{Memory, Read, NotAModule}
use Rattle.wc_validate.specs.Imports.Record.{ImportScope, IsImportFault}
use Rattle.wc_validate.specs.Exports.Map.{ExportRecord}
use Rattle.wc_validate.specs.Exports.Record.{AreExports, core_exports}
use Rattle.wc_validate.specs.Laws.{PlacesAreCauses}
use Rattle.wc_validate.specs.Explain.{IsExportPlace, IsImportPlace, IsMissingPlace, IsModulePlace, PlaceView}
use Rattle.wc_validate.specs.Requirements.{IsFirstUnmet, IsShortfall, IsUnmetFault, Requirement, callbacks, interface_functions, is_called_back, key_requirements, one_memory, requirements, type_requirement, typed_function, world_function}
use Rattle.wc_validate.specs.Validate.{IsValidateCause, IsCauseOfExports, IsCauseOfImports, IsImportScopeFor, IsModuleCause, IsNameScopeOf, ValidationInput}
use Rattle.wc_validate.proofs.ExplainLemmas.{IsPlainFault, fault_of_import, first_mismatch}
use Rattle.wc_validate.proofs.ImportRecordLemmas.{refused_after}
use Rattle.wc_validate.proofs.MissingLemmas.{key_unmet, function_unmet, not_all, two_memories}
use Rattle.wc_validate.proofs.RequirementLemmas.{first_left, first_right}

-- the faults of a module that is read
abbrev IsOfModule : ValidateFault → Type 0
IsOfModule (Read f) = ⊥
IsOfModule NotAModule = ⊥
IsOfModule f = Unit {0}

-- imports
imports_cause : (j : ValidationInput) (m : ModuleValue) (f : ValidateFault) (s : ImportScope) → IsImportScopeFor j.encoder j.renames j.library m.types s
    → IsImportFault s [] m.imports f → IsCauseOfImports j m f
imports_cause j m Memory s scope h = tt
imports_cause j m f s scope h = (s, scope, h)

plain_of_module : (f : ValidateFault) → IsPlainFault f → IsOfModule f
plain_of_module (Read g) h = h
plain_of_module NotAModule h = h
plain_of_module f h = tt

-- what is required
module _ (r : ResolveView) (xs : List CoreExport) (recorded : ExportRecord) (exports : Entries) (keys : List KeyView)
    (functions : List (List ℕ × FuncTypeValue)) (f : ValidateFault) where
  missing_unmet : (p : PlaceView) → IsMissingPlace r xs recorded exports keys functions f p
      → IsFirstUnmet r xs recorded (requirements exports keys functions) f
  missing_unmet p (inl h) =
      inl (two_memories recorded h.export h.second, subst (IsShortfall xs one_memory) (sym h.is_several) tt)
  missing_unmet p (inr (inl h)) =
      inr (
        h.one_memory,
        inl (
          not_all (λ (x : List ℕ × ExportView). IsTrue (is_called_back recorded x)) recorded h.export h.first,
          subst (IsShortfall xs callbacks) (sym h.is_callback) tt,
        ),
      )
  missing_unmet p (inr (inr (alone, inl h))) =
      inr (
        alone.0,
        inr (
          alone.1.0,
          first_left r xs recorded (key_requirements exports keys) (map type_requirement functions) f (key_unmet r xs recorded exports keys f h.key h.first),
        ),
      )
  missing_unmet p (inr (inr (alone, inr h))) =
      inr (
        alone.0,
        inr (
          alone.1.0,
          first_right r xs recorded (key_requirements exports keys) (map type_requirement functions) f h.0 (function_unmet r xs recorded functions f h.1.required h.1.first),
        ),
      )

unmet_fault : (r : ResolveView) (xs : List CoreExport) (recorded : ExportRecord) (needs : List Requirement) (f : ValidateFault)
    → IsFirstUnmet r xs recorded needs f → IsUnmetFault r xs recorded needs f
unmet_fault r xs recorded needs Memory h = tt
unmet_fault r xs recorded needs f h = h

missing_cause : (j : ValidationInput) (m : ModuleValue) (f : ValidateFault) (e : NameScope) (recorded : ExportRecord) → IsNameScopeOf j.encoder e
    → AreExports e j.keys (core_exports m m.exports) recorded
    → IsUnmetFault e.resolve (core_exports m m.exports) recorded (requirements e.world.exports j.keys j.required) f → IsCauseOfExports j m f
missing_cause j m Memory e recorded names h k = tt
missing_cause j m f e recorded names h k = (e, names, inr (recorded, h, k))

-- which faults say that something is missing
short_refusal : (xs : List CoreExport) (need : Requirement) (f : ValidateFault) → IsShortfall xs need f → IsOfModule f
short_refusal xs one_memory (Read g) h = h
short_refusal xs callbacks (Read g) h = h
short_refusal xs (interface_functions i) (Read g) h = h
short_refusal xs (world_function name) (Read g) h = h
short_refusal xs (typed_function name ty) (Read g) h = h
short_refusal xs one_memory NotAModule h = h
short_refusal xs callbacks NotAModule h = h
short_refusal xs (interface_functions i) NotAModule h = h
short_refusal xs (world_function name) NotAModule h = h
short_refusal xs (typed_function name ty) NotAModule h = h
short_refusal xs need f h = tt

unmet_refusal : (r : ResolveView) (xs : List CoreExport) (recorded : ExportRecord) (needs : List Requirement) (f : ValidateFault)
    → IsFirstUnmet r xs recorded needs f → IsOfModule f
unmet_refusal r xs recorded [] f h = absurd h
unmet_refusal r xs recorded (need ∷ needs) f (inl h) = short_refusal xs need f h.1
unmet_refusal r xs recorded (need ∷ needs) f (inr h) = unmet_refusal r xs recorded needs f h.1

-- a module
module _ (j : ValidationInput) (m : ModuleValue) (f : ValidateFault) (p : PlaceView) where
  import_fault : (s : ImportScope) → IsImportPlace s m.imports f p → IsImportFault s [] m.imports f
  import_fault s h = refused_after s [] m.imports h.index h.value h.before f h.first.there h.first.recorded h.first.refused

  export_cause : (e : NameScope) → IsNameScopeOf j.encoder e → IsExportPlace e j.keys m m.exports f p → IsCauseOfExports j m f
  export_cause e names h =
      let x = h.first in
      subst (IsCauseOfExports j m) (sym h.is_mismatch)
      (e, names, inl (first_mismatch e j.keys m m.exports h.index h.core_export x))

  module_cause : IsModulePlace j m f p → IsModuleCause j m f × IsOfModule f
  module_cause (inl h) = (
    inl (imports_cause j m f h.0 h.1 (import_fault h.0 h.2)),
    plain_of_module f (fault_of_import h.0 h.2.before h.2.value f h.2.first.refused),
  )
  module_cause (inr (inl h)) = (
    inr (h.0, h.1, export_cause h.2 h.3 h.4),
    subst IsOfModule (sym h.4.is_mismatch) tt,
  )
  module_cause (inr (inr h)) =
      let unmet = missing_unmet (h.2).resolve (core_exports m m.exports) h.4 (h.2).world.exports j.keys j.required f p h.6 in
      let needs = requirements (h.2).world.exports j.keys j.required in (
        inr (h.0, h.1, missing_cause j m f h.2 h.4 h.3 h.5 (unmet_fault (h.2).resolve (core_exports m m.exports) h.4 needs f unmet)),
        unmet_refusal (h.2).resolve (core_exports m m.exports) h.4 needs f unmet,
      )

cause_in : (j : ValidationInput) (bytes : List ℕ) (m : ModuleValue) (f : ValidateFault) → SpellsModule bytes m → IsModuleCause j m f → IsOfModule f
    → IsValidateCause j bytes f
cause_in j bytes m Memory spelled h k = tt
cause_in j bytes m (Read g) spelled h k = absurd k
cause_in j bytes m NotAModule spelled h k = absurd k
cause_in j bytes m f spelled h k = (m, spelled, h)

pub places_are_causes : PlacesAreCauses
places_are_causes j bytes f p (inl h) = h.cause
places_are_causes j bytes f p (inr h) = let cause = module_cause j h.0 f p h.2 in cause_in j bytes h.0 f h.1 cause.0 cause.1
