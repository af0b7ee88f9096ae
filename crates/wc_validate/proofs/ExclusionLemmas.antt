-- What is recorded of a module excludes every fault but Memory.
use Rattle.std.proofs.Common.{◌≡◌, ℕ, List, [], ◌∷◌, ◌++◌, Some, None, sym, ap, subst, ◌∙◌, ◌⊎◌, Option, Result, Ok, Err, IfOk, OnOk, arith, get_or, inl, inr, refl}
use Rattle.wc_read.specs.Imports.{ImportValue}
use Rattle.wc_read.specs.Laws.{HasOneValue}
use Rattle.wc_read.specs.Modules.{ModuleValue, SpellsModule}
use Rattle.wc_read.specs.Sections.{IsComponent}
use Rattle.wc_read.specs.Types.{FuncTypeValue}
use Rattle.wc_dedupe.specs.Renaming.{RenameView}
use Rattle.wc_resolve.specs.Views.{KeyView}
use Rattle.wc_resolve.specs.Kinds.{ResolveView}
use Rattle.wc_adapters.specs.Adapters.{LibraryView}
use Rattle.wc_encoder.specs.EncoderParts.{EncoderView}
use Rattle.wc_names.specs.Exports.{CoreExport, ExportMeaning, is_export}
use Rattle.wc_names.specs.ExportViews.{ExportView}
use Rattle.wc_names.specs.Imports.{CoreImport, NameScope, Classified}
use Rattle.wc_names.specs.Laws.{ExportsUnique, MeaningsUnique}
use Rattle.wc_names.specs.Meanings.{means, refuses}
use Rattle.wc_validate.specs.Classifications.{FaultKind, out_of_memory, wrong_signature, refused_name, other_fault}
use Rattle.wc_names.specs.Views.{ImportView}
use Rattle.wc_validate.specs.Imports.Entries.{Entry, Records}
use Rattle.wc_validate.specs.Exports.Map.{ExportRecord}
use Rattle.wc_validate.specs.Fault.{import_fault_kind}
use Rattle.wc_validate.specs.Imports.Record.{ImportScope, AreEntries, IsEntry, IsEntryCause, IsEntryFault, IsFaultOfImport, IsImportFault, IsValidAfter, entry_faults, library_entry}
use Rattle.wc_validate.specs.Laws.{RecordsExcludeFaults}
use Rattle.wc_validate.specs.Exports.Record.{AreExports, HasMismatch, IsExportEntry, IsExportsFault, IsMismatched, core_exports}
use Rattle.wc_validate.specs.Requirements.{AreMet, IsFirstUnmet, IsUnmetFault, Requirement, requirements}
use Rattle.wc_validate.specs.Imports.Classify.{HasSignature, IsNameFault}
use Rattle.wc_validate.specs.Validate.{HasNoCause, IsValidateCause, IsExportsCause, IsExportsRecord, IsImportsCause, IsImportsRecord, IsModuleCause, IsRecordOf, IsImportScopeFor, ValidationInput, ModuleRecord, module_record}
use Rattle.wc_validate.specs.declared.validate.ValidatedModule.{ValidatedModule}
use Rattle.wc_validate.specs.declared.fault.ValidateFault.{ValidateFault}
use Rattle.wc_validate.specs.declared.fault.ValidateFault.TheVariants.{Memory, Read, NotAModule, SignatureMismatch}
use Rattle.wc_names.proofs.SearchLemmas.{first_kind}
use Rattle.wc_validate.proofs.MissingLemmas.{no_unmet}
use Rattle.wc_validate.proofs.LawLemmas.{exports_alike, none_some, one_core, one_entry, one_name_scope, same_signature, import_scopes_same}
use Rattle.wc_validate.specs.Refused.{RefusedModule}

no_entry_fault : (before : List Entry) (x : Entry) (f : ValidateFault) → IsValidAfter before x → ¬ IsEntryFault before x f
no_entry_fault before x f valid h = let kind = first_kind (λ k (g : ValidateFault). IsEntryCause before x k × (g ≡ k)) entry_faults f h in valid kind.0 kind.1.0

-- imports
module _ (r : ResolveView) (unique : MeaningsUnique r) where
  no_name_fault : (e : NameScope) (a : CoreImport) (v : ImportView) (required_type : Option FuncTypeValue) (k : FaultKind) → e.resolve ≡ r
      → Classified e a (means v required_type) → HasSignature a.ty required_type → ¬ IsNameFault e a k
  no_name_fault e a v required_type (refused_name why) at c h f =
      let same : means v required_type ≡ refuses why = unique e a (means v required_type) (refuses why) at c f in let bad : ⊥ = cc same in bad
  no_name_fault e a v required_type (wrong_signature (Some wanted)) at c h f =
      f.2 (subst (HasSignature a.ty) (same_signature (unique e a (means v required_type) (means f.0 (Some wanted)) at c f.1)) h)
  no_name_fault e a v required_type (wrong_signature None) at c h f =
      f.3 (subst (HasSignature a.ty) (same_signature (unique e a (means v required_type) (means f.0 (Some f.1)) at c f.2)) h)
  no_name_fault e a v required_type out_of_memory at c h f = f
  no_name_fault e a v required_type other_fault at c h f = f

  no_fault_of : (s : ImportScope) (before : List Entry) (i : ImportValue) (x : Entry) (f : ValidateFault) → s.name_scope.resolve ≡ r → IsEntry s i x
      → IsValidAfter before x → ¬ IsFaultOfImport s before i f
  no_fault_of s before i x f at e valid (inr q) =
      no_entry_fault before x f valid (subst (λ z. IsEntryFault before z f) (one_entry r unique s i q.0 x at q.1 e) q.2)
  no_fault_of s before i x f at (inl e) valid (inl q) = none_some (library_entry s.library i.module_name i.name) x q.0 e
  no_fault_of s before i x f at (inr e) valid (inl q) =
      let core = one_core s i e.1 q.1 e.4 q.2 in
      no_name_fault s.name_scope q.1 e.2 e.3 (import_fault_kind f) at (subst (λ z. Classified s.name_scope z (means e.2 e.3)) core e.5)
      (subst (λ (z : CoreImport). HasSignature z.ty e.3) core e.6) q.3

  no_import_fault : (s : ImportScope) (before : List Entry) (is : List ImportValue) (xs : List Entry) (f : ValidateFault) → s.name_scope.resolve ≡ r
      → AreEntries s before is xs → ¬ IsImportFault s before is f
  no_import_fault s before [] xs f at p q = q
  no_import_fault s before (i ∷ is) [] f at p q = p
  no_import_fault s before (i ∷ is) (x ∷ xs) f at p (inl q) = no_fault_of s before i x f at p.0 p.1 q
  no_import_fault s before (i ∷ is) (x ∷ xs) f at p (inr q) =
      no_import_fault s (before ++ x ∷ []) is xs f at p.2 (subst (λ z. IsImportFault s (before ++ z ∷ []) is f) (one_entry r unique s i q.0 x at q.1 p.0) q.3)

imports_cause : (e : EncoderView) (renames : Option (List RenameView)) (library : Option LibraryView) (types : List FuncTypeValue) (is : List ImportValue)
    (f : ValidateFault) → IsImportsCause e renames library types is f
    → (f ≡ Memory) ⊎ ((s : ImportScope) × IsImportScopeFor e renames library types s × IsImportFault s [] is f)
imports_cause e renames library types is Memory h = inl refl
imports_cause e renames library types is f h = inr h

no_imports_cause : (e : EncoderView) (renames : Option (List RenameView)) (library : Option LibraryView) (types : List FuncTypeValue) (is : List ImportValue)
    (records : Records) (f : ValidateFault) → MeaningsUnique e.resolve
    → IsImportsRecord e renames library types is records → (s : ImportScope) × IsImportScopeFor e renames library types s × IsImportFault s [] is f → ⊥
no_imports_cause e renames library types is records f unique p q =
    let resolve : (p.0).name_scope.resolve ≡ e.resolve = ap (λ z. z.resolve) p.1.has_name_scope.2 in
    no_import_fault e.resolve unique p.0 [] is p.2.0 f resolve p.2.1
    (subst (λ z. IsImportFault z [] is f) (import_scopes_same e renames library types q.0 p.0 q.1 p.1) q.2)

-- exports
same_fixed : {v u : ExportView} {p q : Option FuncTypeValue} → is_export v p ≡ is_export u q → p ≡ q
same_fixed e = ap (λ (z : ExportMeaning). z.ty) e

no_export_fault : (s : NameScope) (keys : List KeyView) (x : CoreExport) (o : Option ExportView) → ExportsUnique → IsExportEntry s keys x o
    → ¬ IsMismatched s keys x
unfolding IsExportEntry IsMismatched
no_export_fault s keys x None unique p q = p (is_export q.0 (Some q.1)) q.2
no_export_fault s keys x (Some v) unique p q =
    q.3 (subst (HasSignature x.ty) (same_fixed (unique s keys x (is_export v p.0) (is_export q.0 (Some q.1)) p.1 q.2)) p.2)

no_mismatch : (s : NameScope) (keys : List KeyView) (xs : List CoreExport) (recorded : ExportRecord) → ExportsUnique → AreExports s keys xs recorded
    → ¬ HasMismatch s keys xs
no_mismatch s keys [] recorded unique p q = q
no_mismatch s keys (x ∷ xs) recorded unique p (inl q) = no_export_fault s keys x p.0 unique p.2 q
no_mismatch s keys (x ∷ xs) recorded unique p (inr q) = no_mismatch s keys xs p.1 unique p.3 q.2

exports_fault : (s : NameScope) (keys : List KeyView) (xs : List CoreExport) (f : ValidateFault) → IsExportsFault s keys xs f → (f ≡ Memory)
    ⊎ HasMismatch s keys xs
exports_fault s keys xs Memory h = inl refl
exports_fault s keys xs SignatureMismatch h = inr h
exports_fault s keys xs f h = absurd h

unmet_fault : (r : ResolveView) (xs : List CoreExport) (recorded : ExportRecord) (needs : List Requirement) (f : ValidateFault)
    → IsUnmetFault r xs recorded needs f → (f ≡ Memory) ⊎ IsFirstUnmet r xs recorded needs f
unmet_fault r xs recorded needs Memory h = inl refl
unmet_fault r xs recorded needs f h = inr h

memory_or : {A : Type 0} {f : ValidateFault} → (f ≡ Memory) ⊎ A → ¬ A → f ≡ Memory
memory_or (inl is) never = is
memory_or (inr a) never = absurd (never a)

exports_by : (e : EncoderView) (keys : List KeyView) (required : List (List ℕ × FuncTypeValue)) (m : ModuleValue) (recorded : ExportRecord) (f : ValidateFault)
    → ExportsUnique → (s : NameScope) → AreExports s keys (core_exports m m.exports) recorded
    → AreMet s.resolve (core_exports m m.exports) recorded (requirements s.world.exports keys required)
    → IsExportsFault s keys (core_exports m m.exports) f
    ⊎ ((other : ExportRecord) × AreExports s keys (core_exports m m.exports) other × IsUnmetFault s.resolve (core_exports m m.exports) other
    (requirements s.world.exports keys required) f)
    → f ≡ Memory
exports_by e keys required m recorded f unique s exports met (inl h) =
    memory_or (exports_fault s keys (core_exports m m.exports) f h) (no_mismatch s keys (core_exports m m.exports) recorded unique exports)
exports_by e keys required m recorded f unique s exports met (inr h) =
    let same = exports_alike s keys (core_exports m m.exports) recorded h.0 unique exports h.1 in
    memory_or (unmet_fault s.resolve (core_exports m m.exports) h.0 (requirements s.world.exports keys required) f h.2)
    (no_unmet s.resolve (core_exports m m.exports) h.0 f (requirements s.world.exports keys required)
    (subst (λ z. AreMet s.resolve (core_exports m m.exports) z (requirements s.world.exports keys required)) same met))

no_exports_fault : (e : EncoderView) (keys : List KeyView) (required : List (List ℕ × FuncTypeValue)) (m : ModuleValue) (recorded : ExportRecord)
    (f : ValidateFault) → ExportsUnique → IsExportsRecord e keys required m recorded
    → IsExportsCause e keys required m f → f ≡ Memory
no_exports_fault e keys required m recorded Memory unique p h = refl
no_exports_fault e keys required m recorded f unique p h =
    let same = one_name_scope e p.0 h.0 p.1 h.1 in
    exports_by e keys required m recorded f unique h.0 (subst (λ z. AreExports z keys (core_exports m m.exports) recorded) same p.2)
    (subst (λ (z : NameScope). AreMet z.resolve (core_exports m m.exports) recorded (requirements z.world.exports keys required)) same p.3) h.2

-- a module
module_fault : (e : EncoderView) → MeaningsUnique e.resolve → ExportsUnique
    → (j : ValidationInput) (m : ModuleValue) (imports : Records) (exports : ExportRecord) (f : ValidateFault) → j.encoder ≡ e
    → IsImportsRecord j.encoder j.renames j.library m.types m.imports imports → IsExportsRecord j.encoder j.keys j.required m exports → IsModuleCause j m f
    → f ≡ Memory
module_fault e unique unique_exports j m imports exports f is p q (inl h) =
    memory_or (imports_cause j.encoder j.renames j.library m.types m.imports f h)
    (no_imports_cause j.encoder j.renames j.library m.types m.imports imports f (subst (λ (z : EncoderView). MeaningsUnique z.resolve) (sym is) unique) p)
module_fault e unique unique_exports j m imports exports f is p q (inr h) = no_exports_fault j.encoder j.keys j.required m exports f unique_exports q h.2

-- bytes that spell a module are no component
pub no_component : (bytes : List ℕ) (m : ModuleValue) → SpellsModule bytes m → ¬ (IsComponent bytes)
no_component bytes m s c = let fifth : 1 ≡ 13 = ap (λ z. get_or z 4 0) (sym s.has_frames.1 ∙ c.1) in absurd (omega (arith, fifth))

no_fault : (e : EncoderView) → MeaningsUnique e.resolve → ExportsUnique → HasOneValue SpellsModule
    → (j : ValidationInput) (bytes : List ℕ) (r : ModuleRecord) (f : ValidateFault) → j.encoder ≡ e → IsRecordOf j bytes r → IsValidateCause j bytes f → f ≡ Memory
no_fault e unique unique_exports one j bytes r Memory is p h = refl
no_fault e unique unique_exports one j bytes r (Read f) is p h = absurd (h.2 p.value p.spelled)
no_fault e unique unique_exports one j bytes r NotAModule is p h = absurd (no_component bytes p.value p.spelled h)
no_fault e unique unique_exports one j bytes r f is p h =
    module_fault e unique unique_exports j p.value r.imports r.exports f is p.imports p.exports
    (subst (λ z. IsModuleCause j z f) (one bytes h.0 p.value h.1 p.spelled) h.2)

pub records_exclude : (e : EncoderView) → MeaningsUnique e.resolve → ExportsUnique → HasOneValue SpellsModule → RecordsExcludeFaults e
records_exclude e unique unique_exports one j bytes r is p f other h = other (no_fault e unique unique_exports one j bytes r f is p h)

-- of what is answered
pub answered : (e : EncoderView) → RecordsExcludeFaults e → (x : Result ValidatedModule RefusedModule) (j : ValidationInput) (bytes : List ℕ) → j.encoder ≡ e
    → IfOk x (λ v. IsRecordOf j bytes (module_record v)) → OnOk x (HasNoCause j bytes)
answered e law (Ok v) j bytes is h = law j bytes (module_record v) is h
answered e law (Err f) j bytes is h = tt
