-- Laws of what is recorded of modules.
use Rattle.std.specs.Prelude.{◌≡◌, ℕ, List, Some, None, All, Contains}
use Rattle.wc_read.specs.Imports.{ImportValue}
use Rattle.wc_read.specs.Modules.{ModuleValue, SpellsModule}
use Rattle.wc_read.specs.Types.{FuncTypeValue}
use Rattle.wc_resolve.specs.Views.{WorldView}
use Rattle.wc_resolve.specs.Kinds.{ResolveView}
use Rattle.wc_encoder.specs.EncoderParts.{EncoderView, IsWorldOf}
use Rattle.wc_names.specs.ExportViews.{ExportView}
use Rattle.wc_names.specs.Imports.{CoreImport, Classified, func_type}
use Rattle.wc_names.specs.Laws.{IsExportIn, IsImportIn}
use Rattle.wc_names.specs.Meanings.{means}
use Rattle.wc_names.specs.Views.{ImportView}
use Rattle.wc_validate.specs.Imports.Entries.{Entry, single}
use Rattle.wc_validate.specs.Imports.Map.{imports_in}
use Rattle.wc_validate.specs.Imports.Record.{ImportScope, IsCoreImport, IsEntry, library_entry}
use Rattle.wc_validate.specs.NameScope.{HasItsWorld}
use Rattle.wc_validate.specs.Explain.{IsPlace}
use Rattle.wc_validate.specs.Place.{PlaceView}
use Rattle.wc_validate.specs.Validate.{HasNoCause, IsValidateCause, IsRecordOf, IsImportScopeFor, ValidationInput, ModuleRecord}
use Rattle.wc_validate.specs.declared.fault.ValidateFault.{ValidateFault}

-- of a module there is one record at most, for one validation input
abbrev pub RecordsUnique : EncoderView → Type 0
RecordsUnique e =
    (j : ValidationInput) (bytes : List ℕ) (p q : ModuleRecord) → j.encoder ≡ e → IsRecordOf j bytes p → IsRecordOf j bytes q → p ≡ q

-- where there is a record of a module, no fault but Memory has a cause
abbrev pub RecordsExcludeFaults : EncoderView → Type 0
RecordsExcludeFaults e = (j : ValidationInput) (bytes : List ℕ) (r : ModuleRecord) → j.encoder ≡ e → IsRecordOf j bytes r → HasNoCause j bytes

-- an import has one entry at most
abbrev pub EntriesUnique : ResolveView → Type 0
EntriesUnique r = (s : ImportScope) (i : ImportValue) (x y : Entry) → s.name_scope.resolve ≡ r → IsEntry s i x → IsEntry s i y → x ≡ y

-- an import that is recorded by its name, and not by an argument of the library, has the signature that its name fixes
abbrev pub SignaturesFixed : ResolveView → Type 0
SignaturesFixed r =
    (s : ImportScope) (i : ImportValue) (x : Entry) (a : CoreImport) (v : ImportView) (ty : FuncTypeValue)
    → s.name_scope.resolve ≡ r → library_entry s.library i.module_name i.name ≡ None → IsEntry s i x → IsCoreImport s i a → Classified s.name_scope a (means v (Some ty)) → a.ty ≡ func_type ty

-- what a recorded import names is there, in the world
abbrev pub EntriesInRange : ResolveView → Type 0
EntriesInRange r =
    (s : ImportScope) (i : ImportValue) (m name : List ℕ) (v : ImportView)
    → s.name_scope.resolve ≡ r → HasItsWorld s.name_scope → IsEntry s i (single m name v) → IsImportIn r s.name_scope.world v

-- a record of one import of a module: it has a module and a name that are those of an import, and is its entry
abbrev pub IsRecordedImport : ImportScope → List ImportValue → List ℕ × (List ℕ × ImportView) → Type 0
IsRecordedImport s imports x = (i : ImportValue) × Contains imports i × IsEntry s i (single x.0 x.1.0 x.1.1)

-- all imports that are recorded of a module are its imports, each by its own entry
abbrev pub RecordsAreImports : EncoderView → Type 0
RecordsAreImports e =
    (j : ValidationInput) (bytes : List ℕ) (r : ModuleRecord) → j.encoder ≡ e → IsRecordOf j bytes r
    → (m : ModuleValue) × SpellsModule bytes m × (s : ImportScope) × IsImportScopeFor e j.renames j.library m.types s × All (IsRecordedImport s m.imports) (imports_in r.imports)

-- what the recorded imports of a module name is there, in the world of the encoder
abbrev pub RecordsInRange : EncoderView → Type 0
RecordsInRange e =
    (j : ValidationInput) (bytes : List ℕ) (r : ModuleRecord) (w : WorldView) → j.encoder ≡ e → IsRecordOf j bytes r → IsWorldOf e w
    → All (λ (x : List ℕ × (List ℕ × ImportView)). IsImportIn e.resolve w x.1.1) (imports_in r.imports)

-- what the recorded exports of a module are for is there, in the world of the encoder
abbrev pub RecordedExportsInRange : EncoderView → Type 0
RecordedExportsInRange e =
    (j : ValidationInput) (bytes : List ℕ) (r : ModuleRecord) (w : WorldView) → j.encoder ≡ e → IsRecordOf j bytes r → IsWorldOf e w
    → All (λ (x : List ℕ × ExportView). IsExportIn e.resolve w x.1) r.exports

-- where a fault has a place in the module that bytes spell, it has a cause there
abbrev pub PlacesAreCauses : Type 0
PlacesAreCauses = (j : ValidationInput) (bytes : List ℕ) (f : ValidateFault) (p : PlaceView) → IsPlace j bytes f p → IsValidateCause j bytes f
