-- A module that restricts another, as trimming makes one: it has some of its imports and exports, and functions of the
-- main module among its imports.
use Rattle.std.specs.Prelude.{◌≡◌, ◌≢◌, ◌↔◌, ℕ, List, ◌∷◌, ◌++◌, Option, Some, None, All, AllPairs, Contains, codes, slice_get}
use Rattle.std.specs.List.{AllZip}
use Rattle.std.specs.Option.{option_map}
use Rattle.wc_read.specs.declared.exports.ExportKind.TheVariants.{Func}
use Rattle.wc_read.specs.Exports.{ExportValue}
use Rattle.wc_read.specs.Imports.{ImportValue}
use Rattle.wc_read.specs.Modules.{IsModule, ModuleValue}
use Rattle.wc_read.specs.Types.{FuncTypeValue}
use Rattle.wc_encoder.specs.EncoderParts.{EncoderView}
use Rattle.wc_names.specs.ExportViews.{ExportView}
use Rattle.wc_names.specs.SameButIndices.{without_indices}
use Rattle.wc_names.specs.Imports.{ExternType, func_type}
use Rattle.wc_names.specs.Views.{ImportView, main_module_export}
use Rattle.wc_validate.specs.declared.fault.ValidateFault.{ValidateFault}
use Rattle.wc_validate.specs.declared.fault.ValidateFault.TheVariants.{DuplicateImport, Memory}
use Rattle.wc_validate.specs.Imports.Map.{imports_in}
use Rattle.wc_validate.specs.Imports.Record.{extern_type}
use Rattle.wc_validate.specs.Exports.Record.{item_type}
use Rattle.wc_validate.specs.Validate.{IsExportsRecord, IsImportsRecord, IsModuleCause, ValidationInput, ModuleRecord}

-- the name by which modules import from the main module
abbrev pub main_module : List ℕ
main_module = codes "__main_module__"

-- types in two modules, where they are there, are the same but for the indices by which they name others
abbrev pub AreSameTypesButIndices : Option ExternType → Option ExternType → Type 0
AreSameTypesButIndices t u = option_map without_indices t ≡ option_map without_indices u

-- imports of two modules are the same: module, name, and type but for indices
pub record IsSameImport (v m : ModuleValue) (j i : ImportValue) : Type 0 where
  pub from : j.module_name ≡ i.module_name
  pub name : j.name ≡ i.name
  pub ty : AreSameTypesButIndices (extern_type v.types j.ty) (extern_type m.types i.ty)

-- an import of a function of the main module
abbrev pub IsMainFunction : ModuleValue → ImportValue → Type 0
IsMainFunction m i = (i.module_name ≡ main_module) × (ty : FuncTypeValue) × (extern_type m.types i.ty ≡ Some (func_type ty))

-- where an import of m is from: it is the import of v at a position; or else it is a function of the main module
abbrev pub HasOrigin : ModuleValue → ModuleValue → Option ℕ → ImportValue → Type 0
HasOrigin v m (Some position) i = (j : ImportValue) × (slice_get v.imports position ≡ Some j) × IsSameImport v m j i
HasOrigin v m None i = IsMainFunction m i

-- no position occurs twice
abbrev pub AreDistinct : List (Option ℕ) → Type 0
AreDistinct origins = AllPairs (λ a b. a ≡ b → a ≡ None) origins

-- exports of two modules are the same: name, and type but for indices
pub record IsSameExport (v m : ModuleValue) (x y : ExportValue) : Type 0 where
  pub name : x.name ≡ y.name
  pub ty : AreSameTypesButIndices (item_type v x.kind x.index) (item_type m y.kind y.index)

-- an export of m is one of v; and one of v is one of m
abbrev pub IsOldExport : ModuleValue → ModuleValue → ExportValue → Type 0
IsOldExport v m y = (x : ExportValue) × Contains v.exports x × IsSameExport v m x y

abbrev pub IsKeptExport : ModuleValue → ModuleValue → ExportValue → Type 0
IsKeptExport v m x = (y : ExportValue) × Contains m.exports y × IsSameExport v m x y

-- m has imports of v, each at most once, and besides them functions of the main module; and exports of v, at least those
-- that have these names
pub record IsRestriction (names : List (List ℕ)) (v m : ModuleValue) : Type 0 where
  pub origins : List (Option ℕ)
  pub imports : AllZip (HasOrigin v m) origins m.imports
  pub distinct : AreDistinct origins
  pub old_exports : All (IsOldExport v m) m.exports
  pub kept_exports : (x : ExportValue) → Contains v.exports x → Contains names x.name → IsKeptExport v m x

-- what is recorded of a module, for a validation input
pub record IsModuleRecord (j : ValidationInput) (m : ModuleValue) (r : ModuleRecord) : Type 0 where
  pub imports : IsImportsRecord j.encoder j.renames j.library m.types m.imports r.imports
  pub exports : IsExportsRecord j.encoder j.keys j.required m r.exports

-- the names are those, at least, of the recorded exports and of the functions that a validation input requires
pub record AreNeeded (j : ValidationInput) (r : ModuleRecord) (names : List (List ℕ)) : Type 0 where
  pub recorded : All (λ (x : List ℕ × ExportView). Contains names x.0) r.exports
  pub required : All (λ (f : List ℕ × FuncTypeValue). Contains names f.0) j.required

-- an import of the main module, and one before it that has its module and its name
pub record HasCollision (m : ModuleValue) : Type 0 where
  pub front : List ImportValue
  pub second : ImportValue
  pub back : List ImportValue
  pub cut : m.imports ≡ front ++ second ∷ back
  pub of_main : second.module_name ≡ main_module
  pub first : ImportValue
  pub is_before : Contains front first
  pub same_module : first.module_name ≡ second.module_name
  pub same_name : first.name ≡ second.name

-- a module that restricts one of which there is a record is refused, for the same validation input, only for a second
-- import of one name of the main module
abbrev pub RestrictionsValid : EncoderView → Type 0
RestrictionsValid e =
    (j : ValidationInput) (v m : ModuleValue) (r : ModuleRecord) (names : List (List ℕ)) (f : ValidateFault)
    → j.encoder ≡ e → j.library ≡ None → IsModuleRecord j v r → AreNeeded j r names → IsRestriction names v m → IsModule m
    → f ≢ Memory → IsModuleCause j m f → (f ≡ DuplicateImport) × HasCollision m

-- a recorded import that an import of m, of this origin, is recorded as: it has its module and its name, and is recorded
-- of v; or it is a function of the main module
abbrev pub IsRecordedFrom : ModuleRecord → Option ℕ → ImportValue → List ℕ × (List ℕ × ImportView) → Type 0
IsRecordedFrom first (Some position) i x = (x.0 ≡ i.module_name) × (x.1.0 ≡ i.name) × Contains (imports_in first.imports) x
IsRecordedFrom first None i x = x ≡ (main_module, (i.name, main_module_export i.name Func))

-- a recorded import of a restricted module is that of some import, of this origin
pub record IsRestrictedImport (first : ModuleRecord) (origins : List (Option ℕ)) (own : List ImportValue) (x : List ℕ × (List ℕ × ImportView)) : Type 0 where
  pub index : ℕ
  pub origin : Option ℕ
  pub import : ImportValue
  pub has_origin : slice_get origins index ≡ Some origin
  pub is_import : slice_get own index ≡ Some import
  pub recorded : IsRecordedFrom first origin import x

-- the imports that are recorded of m are those of v from which its own are, and functions of the main module; the same
-- exports are recorded of both
pub record IsRestrictedRecord (first last : ModuleRecord) (origins : List (Option ℕ)) (own : List ImportValue) : Type 0 where
  pub imports : (x : List ℕ × (List ℕ × ImportView)) → Contains (imports_in last.imports) x ↔ IsRestrictedImport first origins own x
  pub exports : (x : List ℕ × ExportView) → Contains last.exports x ↔ Contains first.exports x

-- what is recorded of a module that restricts one of which there is a record, where no import was renamed
abbrev pub RestrictionsRecorded : EncoderView → Type 0
RestrictionsRecorded e =
    (j : ValidationInput) (v m : ModuleValue) (first last : ModuleRecord) (names : List (List ℕ))
    → j.encoder ≡ e → j.library ≡ None → j.renames ≡ None → IsModuleRecord j v first → AreNeeded j first names → (r : IsRestriction names v m)
    → IsModuleRecord j m last → IsRestrictedRecord first last r.origins m.imports
