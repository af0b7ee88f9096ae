-- A module, validated for an encoder: what is recorded of it, and why it is refused.
use Rattle.std.specs.Prelude.{◌≡◌, ◌≢◌, ◌⊎◌, ℕ, List, [], map, Option, None, String}
use Rattle.std.specs.Borrow.{Bor}
use Rattle.std.specs.Option.{option_map}
use Rattle.std.specs.declared.alloc.Global.{Global}
use Rattle.wc_read.specs.declared.types.FuncType.{FuncType}
use Rattle.wc_read.specs.Fault.{SpellsNothing}
use Rattle.wc_read.specs.Imports.{ImportValue}
use Rattle.wc_read.specs.Modules.{ModuleValue, SpellsModule}
use Rattle.wc_read.specs.Sections.{IsComponent}
use Rattle.wc_read.specs.Types.{FuncTypeValue}
use Rattle.wc_dedupe.specs.Renaming.{RenameView}
use Rattle.wc_resolve.specs.declared.worlds.WorldKey.{WorldKey}
use Rattle.wc_resolve.specs.Views.{KeyView, WorldView, key_view}
use Rattle.wc_adapters.specs.declared.adapters.LibraryInfo.{LibraryInfo}
use Rattle.wc_adapters.specs.Adapters.{AdapterView, LibraryView, library_view}
use Rattle.wc_encoder.specs.EncoderParts.{EncoderView, IsWorldOf}
use Rattle.wc_names.specs.Imports.{NameScope}
use Rattle.wc_validate.specs.declared.fault.ValidateFault.{ValidateFault}
use Rattle.wc_validate.specs.declared.fault.ValidateFault.TheVariants.{Memory, Read, NotAModule}
use Rattle.wc_validate.specs.declared.validate.ValidatedModule.{ValidatedModule}
use Rattle.wc_validate.specs.Imports.Entries.{Records}
use Rattle.wc_validate.specs.Exports.Map.{ExportRecord}
use Rattle.wc_validate.specs.Fault.{of_read}
use Rattle.wc_validate.specs.Imports.Map.{required_entry}
use Rattle.wc_validate.specs.Imports.Record.{ImportScope, AreImports, IsImportFault}
use Rattle.wc_validate.specs.Exports.Record.{AreExports, IsExportsFault, core_exports}
use Rattle.wc_validate.specs.Requirements.{AreMet, IsUnmetFault, requirements}

-- what names are looked up in, for an encoder and its world
abbrev pub encoder_scope : EncoderView → WorldView → NameScope
encoder_scope e w = record {
  resolve = e.resolve;
  world = w;
  adapters = map (λ (a : List ℕ × AdapterView). a.0) e.adapters;
  reject_legacy_names = e.reject_legacy_names;
  hook = e.task_hook;
}

abbrev pub IsNameScopeOf : EncoderView → NameScope → Type 0
IsNameScopeOf e name_scope = (w : WorldView) × IsWorldOf e w × (name_scope ≡ encoder_scope e w)

-- what a module is validated for: an encoder; the arguments that it has, if it is a library; what its imports were
-- called, if some were renamed; the keys of the world's exports that it has to have; and the functions that it has to
-- export, with their types
pub record ValidationInput : Type 0 where
  pub encoder : EncoderView
  pub library : Option LibraryView
  pub renames : Option (List RenameView)
  pub keys : List KeyView
  pub required : List (List ℕ × FuncTypeValue)

abbrev pub validation_input_by : EncoderView → Option LibraryView → Option (List RenameView) → List KeyView → List (List ℕ × FuncTypeValue) → ValidationInput
validation_input_by e library renames keys required = record { encoder = e; library = library; renames = renames; keys = keys; required = required }

-- the validation input of a main module, and that of an adapter or a library
abbrev pub main_input : EncoderView → Option (List RenameView) → ValidationInput
main_input e renames = validation_input_by e None renames e.main_module_exports []

abbrev pub adapter_input : EncoderView → Option LibraryView → List KeyView → List (List ℕ × FuncTypeValue) → ValidationInput
adapter_input e library keys required = validation_input_by e library None keys required

-- the library that a module is, if it is one
abbrev pub library_of : Option (Bor LibraryInfo) → Option LibraryView
library_of library = option_map (λ (l : Bor LibraryInfo). library_view l.now) library

-- the validation input of an adapter or a library, by what the code has for it
abbrev pub adapter_input_of : EncoderView → Option (Bor LibraryInfo) → List WorldKey → List (String Global × FuncType) → ValidationInput
adapter_input_of e library keys required = adapter_input e (library_of library) (map key_view keys) (map required_entry required)

-- what imports of a module with these types are recorded by
pub record IsImportScopeFor (e : EncoderView) (renames : Option (List RenameView)) (library : Option LibraryView) (types : List FuncTypeValue) (s : ImportScope) : Type 0 where
  pub has_name_scope : IsNameScopeOf e s.name_scope
  pub has_library : s.library ≡ library
  pub has_renames : s.renames ≡ renames
  pub has_types : s.types ≡ types

-- imports of a module with these types, recorded; and the cause of the fault of the first of them that has one
abbrev pub IsImportsRecord : EncoderView → Option (List RenameView) → Option LibraryView → List FuncTypeValue → List ImportValue → Records → Type 0
IsImportsRecord e renames library types imports records = (s : ImportScope) × IsImportScopeFor e renames library types s × AreImports s imports records

abbrev pub IsImportsCause : EncoderView → Option (List RenameView) → Option LibraryView → List FuncTypeValue → List ImportValue → ValidateFault → Type 0
IsImportsCause e renames library types imports Memory = Unit {0}
IsImportsCause e renames library types imports f = (s : ImportScope) × IsImportScopeFor e renames library types s × IsImportFault s [] imports f

-- the imports of a module, recorded, for a validation input
abbrev pub IsRecordOfImports : ValidationInput → ModuleValue → Records → Type 0
IsRecordOfImports j m records = IsImportsRecord j.encoder j.renames j.library m.types m.imports records

abbrev pub IsCauseOfImports : ValidationInput → ModuleValue → ValidateFault → Type 0
IsCauseOfImports j m f = IsImportsCause j.encoder j.renames j.library m.types m.imports f

-- the exports of a module, recorded, with all that is required among them
abbrev pub IsExportsRecord : EncoderView → List KeyView → List (List ℕ × FuncTypeValue) → ModuleValue → ExportRecord → Type 0
IsExportsRecord e keys required m recorded =
    (s : NameScope) × IsNameScopeOf e s × AreExports s keys (core_exports m m.exports) recorded
    × AreMet s.resolve (core_exports m m.exports) recorded (requirements s.world.exports keys required)

-- the fault of the first export that has one; or, where none has, of the first requirement that is not met
abbrev pub IsExportsCause : EncoderView → List KeyView → List (List ℕ × FuncTypeValue) → ModuleValue → ValidateFault → Type 0
IsExportsCause e keys required m Memory = Unit {0}
IsExportsCause e keys required m f =
    (s : NameScope) × IsNameScopeOf e s × (
    IsExportsFault s keys (core_exports m m.exports) f
    ⊎ ((recorded : ExportRecord) × AreExports s keys (core_exports m m.exports) recorded
    × IsUnmetFault s.resolve (core_exports m m.exports) recorded (requirements s.world.exports keys required) f)
    )

-- the exports of a module, recorded, or the cause of their fault, for a validation input
abbrev pub IsRecordOfExports : ValidationInput → ModuleValue → ExportRecord → Type 0
IsRecordOfExports j m recorded = IsExportsRecord j.encoder j.keys j.required m recorded

abbrev pub IsCauseOfExports : ValidationInput → ModuleValue → ValidateFault → Type 0
IsCauseOfExports j m f = IsExportsCause j.encoder j.keys j.required m f

-- what is recorded of a module
pub record ModuleRecord : Type 0 where
  pub imports : Records
  pub exports : ExportRecord

abbrev pub module_record : ValidatedModule → ModuleRecord
module_record v = record { imports = v.imports; exports = v.exports }

-- what is recorded of the module that bytes spell, for a validation input
pub record IsRecordOf (j : ValidationInput) (bytes : List ℕ) (r : ModuleRecord) : Type 0 where
  pub value : ModuleValue
  pub spelled : SpellsModule bytes value
  pub imports : IsImportsRecord j.encoder j.renames j.library value.types value.imports r.imports
  pub exports : IsExportsRecord j.encoder j.keys j.required value r.exports

-- the fault of a module: of its imports, or else of its exports
abbrev pub IsModuleCause : ValidationInput → ModuleValue → ValidateFault → Type 0
IsModuleCause j m f =
    IsCauseOfImports j m f
    ⊎ ((imports : Records) × IsRecordOfImports j m imports × IsCauseOfExports j m f)

-- the cause of each fault: the bytes spell no module; they are a component; or it is the fault of the module
abbrev pub IsValidateCause : ValidationInput → List ℕ → ValidateFault → Type 0
IsValidateCause j bytes Memory = Unit {0}
IsValidateCause j bytes (Read f) = (of_read f ≡ Read f) × (¬ IsComponent bytes) × SpellsNothing SpellsModule bytes
IsValidateCause j bytes NotAModule = IsComponent bytes
IsValidateCause j bytes f = (m : ModuleValue) × SpellsModule bytes m × IsModuleCause j m f

-- no fault but Memory has a cause
abbrev pub HasNoCause : ValidationInput → List ℕ → Type 0
HasNoCause j bytes = (f : ValidateFault) → f ≢ Memory → ¬ IsValidateCause j bytes f
