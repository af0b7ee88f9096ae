-- What a part of the classification of exports answers.
use Rattle.std.specs.Prelude.{◌≡◌, ℕ, List, [], ◌∷◌, Option, Result, Ok, MatchOption}
use Rattle.wc_read.specs.declared.types.FuncType.{FuncType}
use Rattle.wc_read.specs.Types.{func_type_value}
use Rattle.wc_resolve.specs.Views.{KeyView}
use Rattle.wc_names.specs.declared.exports.Export.{Export}
use Rattle.wc_names.specs.ExportIndex.{ExportNamesView, names_view}
use Rattle.wc_names.specs.ExportNames.{export_syntax}
use Rattle.wc_names.specs.Exports.{ExportKind, ExportMeaning, IsExportKind, callback, destructor, function, initializer, post_return, realloc, task_hook, AnyTypeName, any_type_row, export_kinds}
use Rattle.wc_names.specs.ExportViews.{export_view}
use Rattle.wc_names.specs.First.{FirstOf}
use Rattle.wc_names.specs.Imports.{ExternType, NameScope, func_type, memory_type, table_type}
use Rattle.wc_names.specs.Mangling.{Scheme}
use Rattle.wc_validate.specs.declared.name_fault.NameFault.{NameFault}
use Rattle.wc_read.specs.declared.types.MemoryType.{MemoryType}
use Rattle.wc_read.specs.declared.types.TableType.{TableType}
use Rattle.wc_validate.specs.Classifications.{IsExportClassification}
use Rattle.wc_validate.specs.Fault.{fault_kind}

-- what is answered of the name of an export of a type, by what the name means
abbrev pub IsExportClassified : (ExportMeaning → Type 0) → ExternType → Result (Option Export) NameFault → Type 0
IsExportClassified Means ty result = IsExportClassification fault_kind Means ty result

-- what an export's name means by a scheme, of some of the kinds
abbrev pub MeansExport : Scheme → NameScope → List KeyView → List ExportKind → List ℕ → ExternType → ExportMeaning → Type 0
MeansExport s e keys some_kinds name ty m = FirstOf (IsExportKind s e keys name ty) some_kinds m

abbrev pub IsExportOfKind : Scheme → NameScope → List KeyView → ExportKind → List ℕ → ExternType → ExportMeaning → Type 0
IsExportOfKind s e keys kind name ty m = IsExportKind s e keys name ty kind m

-- a classification by what the name of an export of a type means; and of an export that is a function
abbrev pub IsTypedExport : (ExternType → ExportMeaning → Type 0) → ExternType → Result (Option Export) NameFault → Type 0
IsTypedExport MeansOf ty result = IsExportClassified (MeansOf ty) ty result

abbrev pub IsExportFunction : (ExternType → ExportMeaning → Type 0) → FuncType → Result (Option Export) NameFault → Type 0
IsExportFunction MeansOf ty result = IsTypedExport MeansOf (func_type (func_type_value ty)) result

-- the kinds of functions: those that a scheme has one name for, and those that are named for what the world exports
abbrev pub fixed_kinds : List ExportKind
fixed_kinds = realloc ∷ initializer ∷ task_hook ∷ []

abbrev pub named_kinds : List ExportKind
named_kinds = function ∷ post_return ∷ callback ∷ destructor ∷ []

-- the names of an export set of a scope's world, by a scheme
abbrev pub AreNamesBy : Scheme → NameScope → ExportNamesView → Type 0
AreNamesBy s e x = x ≡ names_view (export_syntax s) e.resolve e.world.exports x.keys

-- the export that a name is of, whatever is exported and whatever its type
abbrev pub IsAnyTypeExport : List ℕ → Option Export → Type 0
IsAnyTypeExport name result =
    MatchOption result ((row : AnyTypeName) → ¬ (name ≡ (any_type_row row).text))
    (λ x. (row : AnyTypeName) × (name ≡ (any_type_row row).text) × (export_view x ≡ (any_type_row row).export))

-- an export is classified alike for all scopes and key sets: of some kinds of functions, of a memory, and of a table
abbrev pub IsFixedExport : Scheme → List ExportKind → List ℕ → FuncType → Result (Option Export) NameFault → Type 0
IsFixedExport s some_kinds name ty result = (e : NameScope) (keys : List KeyView) → IsExportFunction (MeansExport s e keys some_kinds name) ty result

abbrev pub IsMemoryExport : Scheme → List ℕ → MemoryType → Option Export → Type 0
IsMemoryExport s name ty found =
    (e : NameScope) (keys : List KeyView) → IsTypedExport (MeansExport s e keys export_kinds name) (memory_type ty) (Ok found)

abbrev pub IsTableExport : Scheme → List ℕ → Option Export → Type 0
IsTableExport s name found =
    (e : NameScope) (keys : List KeyView) (ty : TableType) → IsTypedExport (MeansExport s e keys export_kinds name) (table_type ty) (Ok found)

-- an export of one kind is classified alike for all scopes that have these names
abbrev pub IsNamedExport : Scheme → ExportNamesView → ExportKind → List ℕ → FuncType → Result (Option Export) NameFault → Type 0
IsNamedExport s names kind name ty result = (e : NameScope) → AreNamesBy s e names → IsExportFunction (IsExportOfKind s e names.keys kind name) ty result
