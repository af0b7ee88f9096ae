-- Exported functions, as the code has them.
use Rattle.std.specs.Prelude.{◌↔◌, ℕ, List, map, Option, Contains, String, string_bytes, ◌++◌, ◌∷◌, [], All, Bool, IfOk, IsTrue, OnOk, Result, Some}
use Rattle.std.specs.Borrow.{Bor}
use Rattle.std.specs.List.{filter_map}
use Rattle.std.specs.Option.{option_map, option_to_list}
use Rattle.std.specs.declared.alloc.Global.{Global}
use Rattle.wc_read.specs.declared.types.FuncType.{FuncType}
use Rattle.wc_read.specs.Types.{FuncTypeValue, func_type_value}
use Rattle.wc_resolve.specs.declared.ids.InterfaceId.{InterfaceId}
use Rattle.wc_resolve.specs.Dependencies.{id_of_interface}
use Rattle.wc_names.specs.Exports.{CoreExport}
use Rattle.wc_validate.specs.declared.externs.Extern.{Extern}
use Rattle.wc_validate.specs.Private.Imports.Arguments.{IsIndexOf}
use Rattle.wc_validate.specs.Exports.Contexts.{extern_export}
use Rattle.wc_validate.specs.Exports.Map.{ExportRecord}
use Rattle.wc_validate.specs.Requirements.{function_names, typed_name, functions_of}
use Rattle.wc_names.specs.declared.exports.Export.{Export}
use Rattle.wc_resolve.specs.Views.{FunctionView}
use Rattle.wc_resolve.specs.Kinds.{ResolveView}
use Rattle.wc_names.specs.ExportViews.{export_view}

-- an interface or none, and a function's name
abbrev pub function_shown : Option InterfaceId × Bor (List ℕ) → Option ℕ × List ℕ
function_shown f = (option_map id_of_interface f.0, f.1.now)

abbrev pub function_key : Option InterfaceId × String Global → Option ℕ × List ℕ
function_key f = (option_map id_of_interface f.0, string_bytes f.1)

-- the keys are the functions among recorded exports
abbrev pub AreNamesOf : List (Option InterfaceId × String Global) → ExportRecord → Type 0
AreNamesOf keys recorded = (f : Option ℕ × List ℕ) → Contains (map function_key keys) f ↔ Contains (function_names recorded) f

-- a function by its name
abbrev pub typed_entry : Bor (List ℕ) × Bor FuncType → List ℕ × FuncTypeValue
typed_entry e = (e.0.now, func_type_value e.1.now)

-- the functions among exports, with their types; and the one that an export is, if it is one
abbrev pub function_types : List CoreExport → List (List ℕ × FuncTypeValue)
function_types xs = filter_map typed_name xs

abbrev pub function_types_of : List ℕ → Extern → List (List ℕ × FuncTypeValue)
function_types_of name ty = option_to_list (typed_name (extern_export name ty))

-- names are found in an index as among these functions
abbrev pub IsTypeIndexOf : List (Bor (List ℕ) × Bor FuncType) → List (List ℕ × FuncTypeValue) → Type 0
IsTypeIndexOf index functions = IsIndexOf (map typed_entry index) functions

abbrev pub IsExportIndexOf : List (Bor (List ℕ) × Bor FuncType) → List CoreExport → Type 0
IsExportIndexOf index xs = IsTypeIndexOf index (function_types xs)

-- a function was added by its name with its type, if it is one; or to the names of those that are recorded
abbrev pub IsTypedAdded : {T F : Type 0} → List (Bor (List ℕ) × Bor FuncType) → List (Bor (List ℕ) × Bor FuncType) → List ℕ → Extern → Result T F → Type 0
IsTypedAdded old new name ty result =
    (passed : List (List ℕ × FuncTypeValue)) → IsTypeIndexOf old passed → OnOk result (IsTypeIndexOf new (passed ++ function_types_of name ty))

abbrev pub IsNameAdded : {T F : Type 0} → List (Option InterfaceId × String Global) → List (Option InterfaceId × String Global) → Export → Result T F → Type 0
IsNameAdded old new export result =
    (passed : ExportRecord) (name : List ℕ) → AreNamesOf old passed → OnOk result (AreNamesOf new (passed ++ (name, export_view export) ∷ []))

-- a test says whether something holds of what is recorded, whose functions are those of names
abbrev pub TellsByNames : {F : Type 0} → List (Option InterfaceId × String Global) → (ExportRecord → Type 0) → Result Bool F → Type 0
TellsByNames functions Holds result = (recorded : ExportRecord) → AreNamesOf functions recorded → IfOk result (λ b. IsTrue b ↔ Holds recorded)

-- a function, or all of those of the interface at an index, are recorded
abbrev pub HasFunction : Option InterfaceId → List ℕ → ExportRecord → Type 0
HasFunction interface name recorded = Contains (function_names recorded) (option_map id_of_interface interface, name)

abbrev pub HasFunctionsOf : ResolveView → ℕ → ExportRecord → Type 0
HasFunctionsOf r i recorded = All (λ (f : List ℕ × FunctionView). Contains (function_names recorded) (Some i, f.0)) (functions_of r i)
