-- What a fault of a module is about: the first import or export that its cause is at, or what is missing.
use Rattle.std.specs.Prelude.{◌≡◌, ◌≢◌, ◌⊎◌, ◌≤◌, ℕ, List, [], ◌∷◌, ◌++◌, map, take, slice_get, All, Contains, IsSomeAnd, IsTrue, MatchOption, Option, Some, None, true}
use Rattle.semver.specs.Identifiers.{parts_text}
use Rattle.wc_read.specs.declared.fault.ReadFault.{ReadFault}
use Rattle.wc_read.specs.declared.place.ReadPlace.{ReadPlace}
use Rattle.wc_read.specs.Exports.{ExportValue}
use Rattle.wc_read.specs.Imports.{ImportValue}
use Rattle.wc_read.specs.Modules.{ModuleValue, SpellsModule}
use Rattle.wc_read.specs.Place.{IsCausePlace, IsPlaceIn}
use Rattle.wc_read.specs.Types.{FuncTypeValue}
use Rattle.wc_resolve.specs.Resolve.{key_text}
use Rattle.wc_resolve.specs.Views.{FunctionView, KeyView}
use Rattle.wc_resolve.specs.Kinds.{ResolveView}
use Rattle.wc_adapters.specs.Entries.{Entries}
use Rattle.wc_names.specs.Exports.{ClassifiedExport, CoreExport, is_export}
use Rattle.wc_names.specs.ExportViews.{ExportView}
use Rattle.wc_names.specs.Imports.{CoreImport, NameScope, Classified, func_type}
use Rattle.wc_names.specs.Meanings.{means}
use Rattle.wc_names.specs.Views.{ImportView, adapter_export}
use Rattle.wc_validate.specs.declared.fault.ValidateFault.{ValidateFault}
use Rattle.wc_validate.specs.declared.fault.ValidateFault.TheVariants.{SignatureMismatch, AdapterTypesDiffer, SeveralMemoryExports, MissingCallback}
pub use Rattle.wc_validate.specs.Place.{SubjectView, an_import, an_export, missing_function, missing_export, some_bytes, subject_view, DifferenceView, difference_of, difference_view, PlaceView, place_view}
use Rattle.wc_validate.specs.Imports.Entries.{Entry, Records, single, first_by, adapter_type_of}
use Rattle.wc_validate.specs.Imports.Record.{ImportScope, AreEntries, IsCoreImport, IsEntry, IsFaultOfImport}
use Rattle.wc_validate.specs.Exports.Map.{ExportRecord, is_memory}
use Rattle.wc_validate.specs.Fault.{of_read}
use Rattle.wc_validate.specs.Exports.Record.{AreExports, IsMismatched, core_exports, typed_export}
use Rattle.wc_validate.specs.Requirements.{AreMet, IsMet, IsShortfall, Requirement, callback_name, callbacks, exported_type, function_names, functions_of, interface_functions, is_called_back, key_requirement, key_requirements, memory_count, one_memory, type_requirement, world_function}
use Rattle.wc_validate.specs.Validate.{ValidationInput, IsImportScopeFor, IsNameScopeOf, IsRecordOfImports, IsValidateCause}

-- the import at an index is the first that is refused: those before it have these entries, each valid after all before
-- it; and it has this fault after them
pub record IsFirstRefused (s : ImportScope) (imports : List ImportValue) (index : ℕ) (i : ImportValue) (before : List Entry) (f : ValidateFault) : Type 0 where
  pub there : slice_get imports index ≡ Some i
  pub recorded : AreEntries s [] (take index imports) before
  pub refused : IsFaultOfImport s before i f

-- the types that the fault of an import after entries compares: the signature that its name fixes, and its own type; or
-- the type of the first import of the same function of an adapter, and its own. No other fault compares types
abbrev pub AreTypesOfImport : ImportScope → List Entry → ImportValue → ValidateFault → DifferenceView → Type 0
AreTypesOfImport s before i SignatureMismatch d =
    (a : CoreImport) × (v : ImportView) × IsCoreImport s i a × Classified s.name_scope a (means v (Some d.wanted))
    × (a.ty ≡ func_type d.found) × (d.found ≢ d.wanted)
AreTypesOfImport s before i AdapterTypesDiffer d =
    (adapter function : List ℕ) × IsEntry s i (single i.module_name i.name (adapter_export adapter function d.found))
    × (first_by (adapter_type_of adapter function) before ≡ Some d.wanted) × (d.found ≢ d.wanted)
AreTypesOfImport s before i f d = ⊥

-- the types of the place of a fault of an import: those that it compares, or none
abbrev pub IsTypedAt : ImportScope → List Entry → ImportValue → ValidateFault → Option DifferenceView → Type 0
IsTypedAt s before i SignatureMismatch types = IsSomeAnd types (AreTypesOfImport s before i SignatureMismatch)
IsTypedAt s before i AdapterTypesDiffer types = IsSomeAnd types (AreTypesOfImport s before i AdapterTypesDiffer)
IsTypedAt s before i f types = types ≡ None

-- the place of a fault is an import by this scope: the first that is refused
pub record IsImportPlace (s : ImportScope) (imports : List ImportValue) (f : ValidateFault) (p : PlaceView) : Type 0 where
  pub index : ℕ
  pub value : ImportValue
  pub before : List Entry
  pub first : IsFirstRefused s imports index value before f
  pub subject : p.subject ≡ an_import value.module_name value.name index
  pub types : IsTypedAt s before value f p.types

abbrev pub IsPlaceOfImport : ValidationInput → ModuleValue → ValidateFault → PlaceView → Type 0
IsPlaceOfImport j m f p = (s : ImportScope) × IsImportScopeFor j.encoder j.renames j.library m.types s × IsImportPlace s m.imports f p

-- the export at an index is the first that has another type than the one that its name fixes: those before it are recorded
pub record IsFirstMismatched (e : NameScope) (keys : List KeyView) (m : ModuleValue) (exports : List ExportValue) (index : ℕ) (x : CoreExport) : Type 0 where
  pub value : ExportValue
  pub there : slice_get exports index ≡ Some value
  pub typed : typed_export m value ≡ Some x
  pub before : ExportRecord
  pub recorded : AreExports e keys (core_exports m (take index exports)) before
  pub mismatched : IsMismatched e keys x

-- the types that the fault of an export compares: the signature that its name fixes, and its own type
abbrev pub AreTypesOfExport : NameScope → List KeyView → CoreExport → DifferenceView → Type 0
AreTypesOfExport e keys x d =
    (v : ExportView) × ClassifiedExport e keys x (is_export v (Some d.wanted)) × (x.ty ≡ func_type d.found) × (d.found ≢ d.wanted)

-- the place of a fault is an export: the first that has another type
pub record IsExportPlace (e : NameScope) (keys : List KeyView) (m : ModuleValue) (exports : List ExportValue) (f : ValidateFault) (p : PlaceView) : Type 0 where
  pub is_mismatch : f ≡ SignatureMismatch
  pub index : ℕ
  pub core_export : CoreExport
  pub first : IsFirstMismatched e keys m exports index core_export
  pub subject : p.subject ≡ an_export core_export.name
  pub types : IsSomeAnd p.types (AreTypesOfExport e keys core_export)

abbrev pub IsPlaceOfExport : ValidationInput → ModuleValue → ValidateFault → PlaceView → Type 0
IsPlaceOfExport j m f p =
    (imports : Records) × IsRecordOfImports j m imports × (e : NameScope) × IsNameScopeOf j.encoder e × IsExportPlace e j.keys m m.exports f p

-- the first of a list that something does not hold of: it holds of those before it
pub record IsFirstFailing {X : Type 0} (P : X → Type 0) (xs : List X) (x : X) : Type 0 where
  pub before : List X
  pub after : List X
  pub cut : xs ≡ before ++ x ∷ after
  pub hold : All P before
  pub fails : ¬ P x

-- the second memory that is recorded
pub record IsSecondMemory (recorded : ExportRecord) (x : List ℕ × ExportView) : Type 0 where
  pub before : ExportRecord
  pub after : ExportRecord
  pub cut : recorded ≡ before ++ x ∷ after
  pub one : memory_count before ≡ 1
  pub memory : is_memory x.1 ≡ true

pub record IsMemoryPlace (recorded : ExportRecord) (f : ValidateFault) (p : PlaceView) : Type 0 where
  pub is_several : f ≡ SeveralMemoryExports
  pub export : List ℕ × ExportView
  pub second : IsSecondMemory recorded export
  pub subject : p.subject ≡ an_export export.0
  pub types : p.types ≡ None

-- the first recorded export whose callback is missing, where not two memories are recorded
pub record IsCallbackPlace (recorded : ExportRecord) (f : ValidateFault) (p : PlaceView) : Type 0 where
  pub is_callback : f ≡ MissingCallback
  pub one_memory : memory_count recorded ≤ 1
  pub export : List ℕ × ExportView
  pub first : IsFirstFailing (λ (x : List ℕ × ExportView). IsTrue (is_called_back recorded x)) recorded export
  pub subject : p.subject ≡ missing_export (callback_name export.0)
  pub types : p.types ≡ None

-- the first key of an export set whose requirement is not met
pub record IsFirstLacking (r : ResolveView) (xs : List CoreExport) (recorded : ExportRecord) (exports : Entries) (keys : List KeyView) (key : KeyView) (f : ValidateFault) : Type 0 where
  pub before : List KeyView
  pub after : List KeyView
  pub cut : keys ≡ before ++ key ∷ after
  pub met : AreMet r xs recorded (key_requirements exports before)
  pub need : Requirement
  pub required : key_requirement exports key ≡ Some need
  pub unmet : ¬ IsMet r xs recorded need
  pub short : IsShortfall xs need f

-- what is missing for a key that requires something: the first function of the interface that is not recorded, under the
-- text of the key; or the function of the world
abbrev pub IsLack : ResolveView → ExportRecord → KeyView → Requirement → SubjectView → Type 0
IsLack r recorded key (interface_functions i) x =
    (module_name : List ℕ) × (function : List ℕ × FunctionView) × (key_text parts_text r key ≡ Some module_name)
    × IsFirstFailing (λ (f : List ℕ × FunctionView). Contains (function_names recorded) (Some i, f.0)) (functions_of r i) function
    × (x ≡ missing_function module_name function.0)
IsLack r recorded key (world_function name) x = x ≡ missing_export name
IsLack r recorded key need x = ⊥

-- what is missing for the first key whose requirement is not met
pub record IsKeyPlace (r : ResolveView) (xs : List CoreExport) (recorded : ExportRecord) (exports : Entries) (keys : List KeyView) (f : ValidateFault) (p : PlaceView) : Type 0 where
  pub key : KeyView
  pub first : IsFirstLacking r xs recorded exports keys key f
  pub lack : IsLack r recorded key first.need p.subject
  pub types : p.types ≡ None

-- what is said of a required function that is not exported as it is required: that it is missing; or, where one of its
-- name is exported, that one, with the type that is required and its own
abbrev pub IsFunctionLack : List CoreExport → List ℕ × FuncTypeValue → PlaceView → Type 0
IsFunctionLack xs required p =
    MatchOption (exported_type xs required.0) ((p.subject ≡ missing_export required.0) × (p.types ≡ None))
    (λ found. (p.subject ≡ an_export required.0) × (p.types ≡ Some (difference_of required.1 found)))

-- the first required function that is not exported as it is required
pub record IsFirstUnexported (r : ResolveView) (xs : List CoreExport) (recorded : ExportRecord) (functions : List (List ℕ × FuncTypeValue)) (required : List ℕ × FuncTypeValue) (f : ValidateFault) : Type 0 where
  pub before : List (List ℕ × FuncTypeValue)
  pub after : List (List ℕ × FuncTypeValue)
  pub cut : functions ≡ before ++ required ∷ after
  pub met : AreMet r xs recorded (map type_requirement before)
  pub unmet : ¬ IsMet r xs recorded (type_requirement required)
  pub short : IsShortfall xs (type_requirement required) f

pub record IsFunctionPlace (r : ResolveView) (xs : List CoreExport) (recorded : ExportRecord) (functions : List (List ℕ × FuncTypeValue)) (f : ValidateFault) (p : PlaceView) : Type 0 where
  pub required : List ℕ × FuncTypeValue
  pub first : IsFirstUnexported r xs recorded functions required f
  pub lack : IsFunctionLack xs required p

-- the place of a fault is a second memory, or what is missing: a callback; something for a key, where memories and callbacks are as required; or
-- a required function, where the keys have what they require besides
abbrev pub IsMissingPlace : ResolveView → List CoreExport → ExportRecord → Entries → List KeyView → List (List ℕ × FuncTypeValue) → ValidateFault → PlaceView → Type 0
IsMissingPlace r xs recorded exports keys functions f p =
    IsMemoryPlace recorded f p
    ⊎ (IsCallbackPlace recorded f p
    ⊎ (AreMet r xs recorded (one_memory ∷ callbacks ∷ [])
    × (IsKeyPlace r xs recorded exports keys f p
    ⊎ (AreMet r xs recorded (key_requirements exports keys) × IsFunctionPlace r xs recorded functions f p))))

abbrev pub IsPlaceOfMissing : ValidationInput → ModuleValue → ValidateFault → PlaceView → Type 0
IsPlaceOfMissing j m f p =
    (imports : Records) × IsRecordOfImports j m imports × (e : NameScope) × IsNameScopeOf j.encoder e × (recorded : ExportRecord)
    × AreExports e j.keys (core_exports m m.exports) recorded
    × IsMissingPlace e.resolve (core_exports m m.exports) recorded e.world.exports j.keys j.required f p

-- the place of a fault of a module
abbrev pub IsModulePlace : ValidationInput → ModuleValue → ValidateFault → PlaceView → Type 0
IsModulePlace j m f p = IsPlaceOfImport j m f p ⊎ (IsPlaceOfExport j m f p ⊎ IsPlaceOfMissing j m f p)

-- the place of a fault of reading: where the bytes stop to be right; and that of a fault of bytes, or of the module that they
-- spell
pub record IsBytesPlace (j : ValidationInput) (bytes : List ℕ) (f : ValidateFault) (p : PlaceView) : Type 0 where
  pub read_fault : ReadFault
  pub is_read : f ≡ of_read read_fault
  pub cause : IsValidateCause j bytes f
  pub place : ReadPlace
  pub in_bytes : IsPlaceIn bytes place
  pub at_cause : IsCausePlace bytes read_fault place
  pub subject : p.subject ≡ some_bytes place
  pub types : p.types ≡ None

abbrev pub IsPlace : ValidationInput → List ℕ → ValidateFault → PlaceView → Type 0
IsPlace j bytes f p = IsBytesPlace j bytes f p ⊎ ((m : ModuleValue) × SpellsModule bytes m × IsModulePlace j m f p)
