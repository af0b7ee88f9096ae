-- Where validation stops, as the code has it.
use Rattle.std.specs.Prelude.{◌≡◌, ◌≢◌, ◌≤◌, ◌⊎◌, ℕ, List, map, Contains, IsTrue, MatchOption, Option, Some, None, IfErr, IsSomeAnd, OnOk, Result, Err, String}
use Rattle.std.specs.Borrow.{Bor}
use Rattle.std.specs.declared.alloc.Global.{Global}
use Rattle.wc_read.specs.declared.core_module.Module.{Module}
use Rattle.wc_read.specs.declared.exports.Export.{Export as ModuleExport}
use Rattle.wc_read.specs.declared.types.FuncType.{FuncType}
use Rattle.wc_read.specs.declared.types.Import.{Import}
use Rattle.wc_read.specs.Exports.{ExportValue, export_value}
use Rattle.wc_read.specs.Imports.{ImportValue, import_value, import_values}
use Rattle.wc_read.specs.Modules.{ModuleValue, module_value}
use Rattle.wc_read.specs.Types.{FuncTypeValue, func_type_value}
use Rattle.wc_resolve.specs.declared.ids.InterfaceId.{InterfaceId}
use Rattle.wc_resolve.specs.declared.worlds.WorldItem.{WorldItem}
use Rattle.wc_resolve.specs.declared.worlds.WorldKey.{WorldKey}
use Rattle.wc_resolve.specs.Views.{FunctionView, KeyView, key_view, world_entry}
use Rattle.wc_resolve.specs.Kinds.{ResolveView}
use Rattle.wc_adapters.specs.Entries.{Entries}
use Rattle.wc_adapters.specs.Adapters.{LibraryView}
use Rattle.wc_names.specs.declared.exports.Export.{Export}
use Rattle.wc_names.specs.Exports.{ClassifiedExport, CoreExport, is_export}
use Rattle.wc_names.specs.ExportViews.{ExportView}
use Rattle.wc_names.specs.Imports.{NameScope, func_type}
use Rattle.wc_validate.specs.declared.explain.keys.LackingKey.{LackingKey}
use Rattle.wc_validate.specs.declared.explain.functions.LackingFunction.{LackingFunction}
use Rattle.wc_validate.specs.declared.requirements.RecordedModule.{RecordedModule}
use Rattle.wc_validate.specs.declared.refused.ImportFault.{ImportFault}
use Rattle.wc_validate.specs.declared.refused.RefusedImport.{RefusedImport}
use Rattle.wc_validate.specs.declared.refused.RefusedExport.{RefusedExport}
use Rattle.wc_validate.specs.declared.externs.Extern.{Extern}
use Rattle.wc_validate.specs.declared.name_fault.NameFault.{NameFault}
use Rattle.wc_validate.specs.declared.name_fault.NameFault.TheVariants as naming
use Rattle.wc_validate.specs.declared.place.TypeDifference.{TypeDifference}
use Rattle.wc_validate.specs.declared.exports.classify.ExportContext.{ExportContext}
use Rattle.wc_validate.specs.declared.fault.ValidateFault.{ValidateFault}
use Rattle.wc_validate.specs.declared.fault.ValidateFault.TheVariants.{Memory, MissingCallback, SeveralMemoryExports, SignatureMismatch}
use Rattle.wc_validate.specs.declared.imports.record.ImportContext.{ImportContext}
use Rattle.wc_validate.specs.declared.names.Names.{Names}
use Rattle.wc_validate.specs.declared.place.Place.{Place}
use Rattle.wc_validate.specs.declared.place.Subject.{Subject}
use Rattle.wc_validate.specs.declared.requirements.RequiredExports.{RequiredExports}
use Rattle.wc_validate.specs.Imports.Map.{required_entry}
use Rattle.wc_validate.specs.Exports.Map.{ExportRecord, export_entry}
use Rattle.wc_validate.specs.Exports.Contexts.{MeansExportBy}
use Rattle.wc_validate.specs.Exports.Record.{AreRecordedBy, IsExportsFault, exports_in}
use Rattle.wc_validate.specs.Imports.Entries.{Entry, Records}
use Rattle.wc_validate.specs.Imports.Record.{ImportScope, library_entry}
use Rattle.wc_validate.specs.NameScope.{name_scope_of}
use Rattle.wc_validate.specs.Explain.{AreTypesOfImport, DifferenceView, IsTypedAt, difference_view, IsCallbackPlace, IsExportPlace, IsFirstFailing, IsFirstLacking, IsFirstMismatched, IsFirstRefused, IsFirstUnexported, IsFunctionLack, IsFunctionPlace, IsImportPlace, IsKeyPlace, IsLack, IsMemoryPlace, IsMissingPlace, IsModulePlace, IsSecondMemory, PlaceView, an_export, missing_export, place_view, subject_view}
use Rattle.wc_validate.specs.Refused.{IsMemoryRefusal, IsPlaceOrNone, IsRefusedAt, RefusedModule}
use Rattle.wc_validate.specs.Requirements.{AreMet, IsMet, IsUnmetFault, Requirement, callback_name, function_names, functions_of, is_called_back, key_requirement, memory_count, type_requirement}
use Rattle.wc_validate.specs.Private.ExportedFunctions.{AreNamesOf, HasFunctionsOf, IsExportIndexOf}
use Rattle.wc_validate.specs.Private.Exports.Classify.{IsTypedExport}
use Rattle.wc_validate.specs.Private.Externs.{extern_view}
use Rattle.wc_validate.specs.Private.Requirements.{requirements_of_functions, requirements_of_keys}
use Rattle.wc_validate.specs.Private.Imports.Contexts.{HasLibrary, IsClassifiedIn, IsRefusedIn, import_scope, types_of}
use Rattle.wc_validate.specs.Validate.{ValidationInput, IsRecordOfImports}

-- why validation stops at the import at an index, with the types that differ; and the same by a context, by whichever library
-- the module is
abbrev pub IsStopAt : ImportScope → List ImportValue → ℕ → ValidateFault → Option DifferenceView → Type 0
IsStopAt s imports index Memory types = Unit {0}
IsStopAt s imports index f types =
    (i : ImportValue) × (before : List Entry) × IsFirstRefused s imports index i before f × IsTypedAt s before i f types

abbrev pub IsStopIn : ImportContext → List Import → RefusedImport → Type 0
IsStopIn c is x =
    (library : Option LibraryView) → HasLibrary c library
    → IsStopAt (import_scope c library) (import_values is) x.index x.cause.fault (types_of x.cause)

-- a module is refused for the import at which validation stops
abbrev pub IsImportRefused : List Import → RefusedImport → RefusedModule → Type 0
IsImportRefused is refused x =
    (x.fault ≡ refused.cause.fault)
    × ((s : ImportScope) → IsStopAt s (import_values is) refused.index refused.cause.fault (types_of refused.cause)
    → IsRefusedAt (IsImportPlace s (import_values is)) x)

-- the types of an import that is refused for its type, which is not the one that its name fixes; and why an import is refused
-- whose name is
abbrev pub AreMismatchedTypes : ImportContext → Import → FuncType → TypeDifference → Type 0
AreMismatchedTypes c i wanted d =
    (library : Option LibraryView) (before : List Entry) → IsClassifiedIn c library i (Err (naming.SignatureMismatch wanted))
    → AreTypesOfImport (import_scope c library) before (import_value i) SignatureMismatch (difference_view d)

-- an import is refused for its name, by some library that the module may be
abbrev pub IsRefusedByName : ImportContext → Import → NameFault → Type 0
IsRefusedByName c i f = (library : Option LibraryView) × IsClassifiedIn c library i (Err f)

abbrev pub IsNameRefusal : ImportContext → Import → NameFault → ImportFault → Type 0
IsNameRefusal c i f x =
    (library : Option LibraryView) (before : List Entry) → library_entry library i.module.now i.name.now ≡ None → IsClassifiedIn c library i (Err f)
    → IsRefusedIn c library before i x

-- an export has another type than this one, which its name fixes
abbrev pub IsOtherThan : NameScope → List KeyView → CoreExport → FuncTypeValue → Type 0
IsOtherThan e keys x wanted = (v : ExportView) × ClassifiedExport e keys x (is_export v (Some wanted)) × (x.ty ≢ func_type wanted)

-- why validation stops at the export at an index; and the same by a context
abbrev pub IsExportStopAt : NameScope → List KeyView → ModuleValue → List ExportValue → ℕ → NameFault → Type 0
IsExportStopAt e keys m es index naming.Memory = Unit {0}
IsExportStopAt e keys m es index (naming.SignatureMismatch wanted) =
    (x : CoreExport) × IsFirstMismatched e keys m es index x × IsOtherThan e keys x (func_type_value wanted)
IsExportStopAt e keys m es index f = ⊥

abbrev pub IsExportStopIn : ExportContext → Module → List ModuleExport → RefusedExport → Type 0
IsExportStopIn c m es x = IsExportStopAt (name_scope_of c.names) c.standard.keys (module_value m) (map export_value es) x.index x.fault

-- validation stops at the export at an index, by something that exports are classified by
abbrev pub IsExportStop : Module → List ModuleExport → ℕ → NameFault → Type 0
IsExportStop m es index f = (e : NameScope) × (keys : List KeyView) × IsExportStopAt e keys (module_value m) (map export_value es) index f

-- why an export is refused
abbrev pub IsRefusedExport : ExportContext → List ℕ → Extern → NameFault → Type 0
IsRefusedExport c name ty f = IsTypedExport (MeansExportBy c name) (extern_view ty) (Err f)

-- an export that is refused for its type, as a place; by whatever the exports were recorded
abbrev pub IsMismatchPlaced : Module → List ModuleExport → ℕ → FuncType → Place → Type 0
IsMismatchPlaced m es index wanted p =
    (e : NameScope) (keys : List KeyView) → IsExportStopAt e keys (module_value m) (map export_value es) index (naming.SignatureMismatch wanted)
    → IsExportPlace e keys (module_value m) (map export_value es) SignatureMismatch (place_view p)

-- a module is refused for an export
abbrev pub AreExportsRefusedAt : Module → List ModuleExport → RefusedExport → RefusedModule → Type 0
AreExportsRefusedAt m es refused x =
    (e : NameScope) (keys : List KeyView) → IsExportStopAt e keys (module_value m) (map export_value es) refused.index refused.fault
    → IsExportsFault e keys (exports_in m es) x.fault × IsRefusedAt (IsExportPlace e keys (module_value m) (map export_value es)) x

-- a module is refused for the first of its exports that is refused by a context
abbrev pub IsRefusedForExport : ExportContext → Module → RefusedModule → Type 0
IsRefusedForExport c m x =
    IsExportsFault (name_scope_of c.names) c.standard.keys (exports_in m m.exports.items) x.fault
    × IsRefusedAt (IsExportPlace (name_scope_of c.names) c.standard.keys (module_value m) (map export_value m.exports.items)) x

-- the imports of a module are recorded
abbrev pub HasRecordedImports : ValidationInput → ModuleValue → Type 0
HasRecordedImports j m = (imports : Records) × IsRecordOfImports j m imports

-- why the first key of an export set is refused whose requirement is not met by what is recorded, whose functions are those
-- of names
abbrev pub IsLackAt : ResolveView → List CoreExport → ExportRecord → Entries → List KeyView → KeyView → ValidateFault → Type 0
IsLackAt r xs recorded exports keys key Memory = Unit {0}
IsLackAt r xs recorded exports keys key f = IsFirstLacking r xs recorded exports keys key f

abbrev pub IsLackIn : ResolveView → List (Option InterfaceId × String Global) → List (WorldKey × WorldItem) → List WorldKey → LackingKey → Type 0
IsLackIn r functions exports keys x =
    (xs : List CoreExport) (recorded : ExportRecord) → AreNamesOf functions recorded
    → IsLackAt r xs recorded (map world_entry exports) (map key_view keys) (key_view x.key.now) x.fault

-- the first function of the interface at an index that is not recorded, by its name
abbrev pub IsLackingFunction : ResolveView → List (Option InterfaceId × String Global) → ℕ → Bor (List ℕ) → Type 0
IsLackingFunction r functions i name =
    (recorded : ExportRecord) → AreNamesOf functions recorded → (f : List ℕ × FunctionView) × (f.0 ≡ name.now)
    × IsFirstFailing (λ (g : List ℕ × FunctionView). Contains (function_names recorded) (Some i, g.0)) (functions_of r i) f

-- all functions of the interface at an index are recorded, whose functions are those of names
abbrev pub AreAllNamed : ResolveView → List (Option InterfaceId × String Global) → ℕ → Type 0
AreAllNamed r functions i = (recorded : ExportRecord) → AreNamesOf functions recorded → HasFunctionsOf r i recorded

-- what is missing for a key that requires something; nothing only where it is met; and for a key of a world's exports
abbrev pub IsLackOf : ResolveView → List (Option InterfaceId × String Global) → KeyView → Requirement → Option Subject → Type 0
IsLackOf r functions key need answer =
    (recorded : ExportRecord) → AreNamesOf functions recorded
    → MatchOption answer ((xs : List CoreExport) → IsMet r xs recorded need) (λ (x : Subject). IsLack r recorded key need (subject_view x))

abbrev pub IsLackNamed : ResolveView → List (Option InterfaceId × String Global) → List (WorldKey × WorldItem) → WorldKey → Option Subject → Type 0
IsLackNamed r functions exports key answer =
    (need : Requirement) → key_requirement (map world_entry exports) (key_view key) ≡ Some need → IsLackOf r functions (key_view key) need answer

-- validation stops at a key, by some exports whose functions are those of names
abbrev pub IsKeyStop : Names → List (Option InterfaceId × String Global) → LackingKey → Type 0
IsKeyStop n functions x =
    (xs : List CoreExport) × (recorded : ExportRecord) × (keys : List KeyView) × AreNamesOf functions recorded
    × IsLackAt n.resolve.now xs recorded (map world_entry n.world.now.exports.entries) keys (key_view x.key.now) x.fault

-- what is missing for the key that is refused, as a place; nothing only where an allocation failed
abbrev pub IsKeyPlaced : Names → List (Option InterfaceId × String Global) → LackingKey → Option Place → Type 0
IsKeyPlaced n functions x answer =
    (xs : List CoreExport) (recorded : ExportRecord) (keys : List KeyView) → AreNamesOf functions recorded
    → IsLackAt n.resolve.now xs recorded (map world_entry n.world.now.exports.entries) keys (key_view x.key.now) x.fault
    → IsPlaceOrNone (IsKeyPlace n.resolve.now xs recorded (map world_entry n.world.now.exports.entries) keys) x.fault answer

-- a module is refused for the keys of an export set, where the functions that are recorded are those of names
abbrev pub RefusesKeys : {T : Type 0} → Names → List (Option InterfaceId × String Global) → List WorldKey → Result T RefusedModule → Type 0
RefusesKeys n functions keys result =
    (xs : List CoreExport) (recorded : ExportRecord) → AreNamesOf functions recorded
    → IfErr result (λ (x : RefusedModule). IsUnmetFault n.resolve.now xs recorded (requirements_of_keys n.world.now.exports.entries keys) x.fault
    × IsRefusedAt (IsKeyPlace n.resolve.now xs recorded (map world_entry n.world.now.exports.entries) (map key_view keys)) x)

-- the first recorded export whose callback is missing, by its name
abbrev pub IsUncalled : List (String Global × Export) → Bor (List ℕ) → Type 0
IsUncalled recorded name =
    (x : List ℕ × ExportView) × (x.0 ≡ name.now)
    × IsFirstFailing (λ (y : List ℕ × ExportView). IsTrue (is_called_back (map export_entry recorded) y)) (map export_entry recorded) x

-- the second memory that is recorded, by its name
abbrev pub IsSecondNamed : List (String Global × Export) → Bor (List ℕ) → Type 0
IsSecondNamed recorded name = (x : List ℕ × ExportView) × (x.0 ≡ name.now) × IsSecondMemory (map export_entry recorded) x

-- a memory, and the callback of an export, as places
abbrev pub IsMemoryPlaced : List ℕ → Option Place → Type 0
IsMemoryPlaced name answer = IsSomeAnd answer (λ (p : Place). ((place_view p).subject ≡ an_export name) × ((place_view p).types ≡ None))

abbrev pub IsCallbackPlaced : List ℕ → Option Place → Type 0
IsCallbackPlaced name answer =
    IsSomeAnd answer (λ (p : Place). ((place_view p).subject ≡ missing_export (callback_name name)) × ((place_view p).types ≡ None))

-- a module is refused for its second memory; and for an export whose callback is missing
abbrev pub IsRefusedForMemories : List (String Global × Export) → RefusedModule → Type 0
IsRefusedForMemories recorded x =
    IsMemoryRefusal x
    ⊎ ((x.fault ≡ SeveralMemoryExports) × ((y : List ℕ × ExportView) × IsSecondMemory (map export_entry recorded) y)
    × IsRefusedAt (IsMemoryPlace (map export_entry recorded)) x)

abbrev pub IsRefusedForCallbacks : List (String Global × Export) → RefusedModule → Type 0
IsRefusedForCallbacks recorded x =
    IsMemoryRefusal x
    ⊎ ((x.fault ≡ MissingCallback)
    × ((y : List ℕ × ExportView)
    × IsFirstFailing (λ (z : List ℕ × ExportView). IsTrue (is_called_back (map export_entry recorded) z)) (map export_entry recorded) y)
    × (memory_count (map export_entry recorded) ≤ 1 → IsRefusedAt (IsCallbackPlace (map export_entry recorded)) x))

-- why a required function is refused that is the first which is not met by exports whose functions are those of an index
abbrev pub IsFunctionLackAt : ResolveView → List CoreExport → ExportRecord → List (List ℕ × FuncTypeValue) → List ℕ × FuncTypeValue → ValidateFault → Type 0
IsFunctionLackAt r xs recorded functions required Memory = Unit {0}
IsFunctionLackAt r xs recorded functions required f = IsFirstUnexported r xs recorded functions required f

-- a required function that is refused, as a place; nothing only where an allocation failed
abbrev pub IsFunctionPlaced : List (Bor (List ℕ) × Bor FuncType) → LackingFunction → Option Place → Type 0
IsFunctionPlaced index x answer =
    (r : ResolveView) (xs : List CoreExport) (recorded : ExportRecord) (functions : List (List ℕ × FuncTypeValue)) → IsExportIndexOf index xs
    → IsFunctionLackAt r xs recorded functions (x.name.now, func_type_value x.ty.now) x.fault
    → IsPlaceOrNone (IsFunctionPlace r xs recorded functions) x.fault answer

-- a module is refused for a required function
abbrev pub RefusesFunctions : {T : Type 0} → Module → List (String Global × FuncType) → Result T RefusedModule → Type 0
RefusesFunctions m functions result =
    (r : ResolveView) (recorded : ExportRecord)
    → IfErr result (λ (x : RefusedModule). IsUnmetFault r (exports_in m m.exports.items) recorded (requirements_of_functions functions) x.fault
    × IsRefusedAt (IsFunctionPlace r (exports_in m m.exports.items) recorded (map required_entry functions)) x)

-- a function that is not exported as it is required, as a place
abbrev pub IsUnexported : List (Bor (List ℕ) × Bor FuncType) → List ℕ → FuncType → Place → Type 0
IsUnexported index name ty p =
    (xs : List CoreExport) → IsExportIndexOf index xs → IsFunctionLack xs (name, func_type_value ty) (place_view p)

abbrev pub IsFunctionLackIn : List (Bor (List ℕ) × Bor FuncType) → List (String Global × FuncType) → LackingFunction → Type 0
IsFunctionLackIn index functions x =
    (r : ResolveView) (xs : List CoreExport) (recorded : ExportRecord) → IsExportIndexOf index xs
    → IsFunctionLackAt r xs recorded (map required_entry functions) (x.name.now, func_type_value x.ty.now) x.fault

-- all required functions are exported so, whose functions are those of an index
abbrev pub AreMetByIndex : {T F : Type 0} → List (Bor (List ℕ) × Bor FuncType) → List (String Global × FuncType) → Result T F → Type 0
AreMetByIndex index functions result =
    (r : ResolveView) (xs : List CoreExport) (recorded : ExportRecord) → IsExportIndexOf index xs
    → OnOk result (AreMet r xs recorded (map type_requirement (map required_entry functions)))

-- the place of a fault of what is missing among the exports of a module
abbrev pub IsMissingIn : Names → RequiredExports → RecordedModule → ValidateFault → PlaceView → Type 0
IsMissingIn n q x f p =
    IsMissingPlace n.resolve.now (exports_in x.«module».now x.«module».now.exports.items) (map export_entry x.recorded.now.entries)
    (map world_entry n.world.now.exports.entries) (map key_view q.keys.now.keys) (map required_entry q.functions.now.entries) f p

-- the place of a fault of the exports of a module, which are recorded by a context
abbrev pub IsPlaceIn : ExportContext → RequiredExports → Module → ValidateFault → PlaceView → Type 0
IsPlaceIn c q m f p =
    IsExportPlace (name_scope_of c.names) c.standard.keys (module_value m) (map export_value m.exports.items) f p
    ⊎ ((recorded : ExportRecord) × AreRecordedBy c (exports_in m m.exports.items) recorded
    × IsMissingPlace c.names.resolve.now (exports_in m m.exports.items) recorded (map world_entry c.names.world.now.exports.entries)
    (map key_view q.keys.now.keys) (map required_entry q.functions.now.entries) f p)

-- a module whose imports are recorded is refused for its exports
abbrev pub ArePlacedAmongExports : {T : Type 0} → ValidationInput → ModuleValue → Result T RefusedModule → Type 0
ArePlacedAmongExports j m result = HasRecordedImports j m → IfErr result (IsRefusedAt (IsModulePlace j m))
