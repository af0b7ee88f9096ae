-- What imports are recorded by, as the code has it, and how far imports are recorded.
use Rattle.std.specs.Prelude.{ℕ, ◌<◌, All, List, [], length, map, Option, Result, option_copied, IfErr, IfOk, OnOk}
use Rattle.std.specs.Option.{IfSome}
use Rattle.wc_read.specs.declared.core_module.Module.{Module}
use Rattle.wc_read.specs.declared.types.Import.{Import}
use Rattle.wc_read.specs.declared.types.ImportType.{ImportType}
use Rattle.wc_read.specs.Imports.{ImportValue, import_value, import_values}
use Rattle.wc_read.specs.Spaces.{func_of}
use Rattle.wc_read.specs.Types.{func_type_value}
use Rattle.wc_adapters.specs.Adapters.{LibraryView}
use Rattle.wc_names.specs.declared.imports.Import.{Import as ClassifiedImport}
use Rattle.wc_names.specs.Imports.{CoreImport}
use Rattle.wc_validate.specs.declared.fault.ValidateFault.{ValidateFault}
use Rattle.wc_validate.specs.declared.fault.ValidateFault.TheVariants.{Memory}
use Rattle.wc_validate.specs.declared.name_fault.NameFault.{NameFault}
use Rattle.wc_validate.specs.declared.imports.record.ImportContext.{ImportContext}
use Rattle.wc_validate.specs.declared.imports.recorder.Recorder.{Recorder}
use Rattle.wc_validate.specs.Private.Imports.Arguments.{HasArgumentsOf}
use Rattle.wc_validate.specs.Imports.Entries.{Entry}
use Rattle.wc_validate.specs.Imports.Record.{ImportScope, IsCoreImport, IsEntry, AreEntries, IsFaultOfImport}
use Rattle.wc_validate.specs.Private.Imports.Recorder.{IsRecordedAfter, IsRecorderOf}
pub use Rattle.wc_validate.specs.Private.Imports.Recorder.{types_of}
use Rattle.wc_validate.specs.Imports.Classify.{IsClassified}
use Rattle.wc_validate.specs.Explain.{DifferenceView, IsTypedAt}
use Rattle.wc_validate.specs.declared.refused.ImportFault.{ImportFault}
use Rattle.wc_validate.specs.NameScope.{name_scope_of}

-- what imports are recorded by in a context, for a module that is this library
abbrev pub import_scope : ImportContext → Option LibraryView → ImportScope
import_scope c library = record {
  name_scope = name_scope_of c.names;
  library = library;
  renames = option_copied c.renames;
  types = map func_type_value c.types.now;
}

-- the type of a function has an index below this
abbrev pub IsTypeIn : ℕ → ImportType → Type 0
IsTypeIn count ty = IfSome (func_of ty) (λ index. index < count)

-- the types of a module's imported functions have indices below the number of its types
abbrev pub HasTypedImports : Module → Type 0
HasTypedImports m = All (λ (i : Import). IsTypeIn (length m.types.items) i.ty) m.imports.items

-- an import was recorded after entries
abbrev pub IsImportRecorded : ImportScope → List Entry → ImportValue → Recorder → Type 0
IsImportRecorded s before i r = (x : Entry) × IsEntry s i x × IsRecordedAfter before x r

-- why an import was not recorded after entries, and the types that differ
abbrev pub IsImportRefusal : ImportScope → List Entry → ImportValue → ValidateFault → Option DifferenceView → Type 0
IsImportRefusal s before i Memory types = Unit {0}
IsImportRefusal s before i f types = IsFaultOfImport s before i f × IsTypedAt s before i f types

-- all imports are recorded
abbrev pub AreRecorded : ImportScope → List ImportValue → Recorder → Type 0
AreRecorded s is r = (xs : List Entry) × AreEntries s [] is xs × IsRecorderOf r xs

-- the module is this library, if it is one
abbrev pub HasLibrary : ImportContext → Option LibraryView → Type 0
HasLibrary c library = HasArgumentsOf c.arguments library

-- an import of the code's was recorded after entries, or why that import was not
abbrev pub IsRecordedIn : ImportContext → Option LibraryView → List Entry → Import → Recorder → Type 0
IsRecordedIn c library before i r = IsImportRecorded (import_scope c library) before (import_value i) r

abbrev pub IsRefusedIn : ImportContext → Option LibraryView → List Entry → Import → ImportFault → Type 0
IsRefusedIn c library before i x = IsImportRefusal (import_scope c library) before (import_value i) x.fault (types_of x)

-- all imports of the code's are recorded
abbrev pub AreRecordedIn : ImportContext → Option LibraryView → List Import → Recorder → Type 0
AreRecordedIn c library is r = AreRecorded (import_scope c library) (import_values is) r

-- what an import of the code's is, by its original name
abbrev pub IsClassifiedIn : ImportContext → Option LibraryView → Import → Result ClassifiedImport NameFault → Type 0
IsClassifiedIn c library i result = (a : CoreImport) × IsCoreImport (import_scope c library) (import_value i) a × IsClassified (name_scope_of c.names) a result

-- an import was recorded by a recorder after the entries that it has, or why it was not; by whichever library the module is
abbrev pub IsOneRecorded : {T F : Type 0} → ImportContext → Recorder → Import → Recorder → Result T F → Type 0
IsOneRecorded c old i new result =
    (library : Option LibraryView) (before : List Entry) → HasLibrary c library → IsRecorderOf old before → OnOk result (IsRecordedIn c library before i new)

abbrev pub IsOneRefused : {T : Type 0} → ImportContext → Recorder → Import → Result T ImportFault → Type 0
IsOneRefused c old i result =
    (library : Option LibraryView) (before : List Entry) → HasLibrary c library → IsRecorderOf old before → IfErr result (IsRefusedIn c library before i)

-- all imports were recorded by a recorder
abbrev pub AreAllRecorded : {F : Type 0} → ImportContext → List Import → Result Recorder F → Type 0
AreAllRecorded c is result = (library : Option LibraryView) → HasLibrary c library → IfOk result (AreRecordedIn c library is)
