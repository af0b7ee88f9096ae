-- What an import of a core module is: a rule of no scheme, or one of a scheme.
use Rattle.std.specs.Prelude.{◌≡◌, ◌≢◌, ℕ, List, Option, Some, None, Result, Ok, Err}
use Rattle.wc_read.specs.declared.types.FuncType.{FuncType}
use Rattle.wc_read.specs.Types.{FuncTypeValue, func_type_value}
use Rattle.wc_names.specs.declared.imports.Import.{Import}
use Rattle.wc_names.specs.Imports.{NameScope, ExternType, func_type, CoreImport, Classified, IsRule, main_memory, adapter_meaning, IsFunction, extern_kind}
use Rattle.wc_names.specs.Meanings.{Meaning, means, refuses}
use Rattle.wc_validate.specs.Classifications.{FaultKind, out_of_memory, wrong_signature, refused_name, IsImportClassification}
use Rattle.wc_names.specs.Views.{ImportView, import_view}
use Rattle.wc_validate.specs.declared.name_fault.NameFault.{NameFault}
use Rattle.wc_validate.specs.Fault.{fault_kind}
use Rattle.wc_read.specs.declared.exports.ExportKind.{ExportKind}
use Rattle.std.specs.Option.{IfSome}

-- an import of a module
abbrev pub core_import : List ℕ → List ℕ → ExternType → CoreImport
core_import from name ty = record { from = from; name = name; ty = ty }

-- an import of a function
abbrev pub core_function : List ℕ → List ℕ → FuncType → CoreImport
core_function from name ty = core_import from name (func_type (func_type_value ty))

-- an import is not the main module's memory
abbrev pub IsNoMainMemory : NameScope → CoreImport → Type 0
IsNoMainMemory e a = (m : Meaning) → ¬ IsRule e a main_memory m

-- what a function that an adapter exports means
abbrev pub IsAdapterMeaning : List ℕ → List ℕ → FuncTypeValue → Meaning → Type 0
IsAdapterMeaning adapter name ty m = m ≡ adapter_meaning adapter name ty

-- the type is the signature that is fixed, if one is
abbrev pub HasSignature : ExternType → Option FuncTypeValue → Type 0
HasSignature ty required_type = IfSome required_type (λ (t : FuncTypeValue). ty ≡ func_type t)

-- what a fault of a name says of the import; where the type is not the signature that its name fixes, of that signature, if
-- the fault says it
abbrev pub IsNameFault : NameScope → CoreImport → FaultKind → Type 0
IsNameFault e a (refused_name why) = Classified e a (refuses why)
IsNameFault e a (wrong_signature (Some wanted)) = (v : ImportView) × Classified e a (means v (Some wanted)) × (a.ty ≢ func_type wanted)
IsNameFault e a (wrong_signature None) =
    (v : ImportView) × (required_type : FuncTypeValue) × Classified e a (means v (Some required_type)) × (a.ty ≢ func_type required_type)
IsNameFault e a kind = ⊥

-- what a fault says of the import's name; nothing where an allocation failed
abbrev pub IsNameReason : NameScope → CoreImport → FaultKind → Type 0
IsNameReason e a out_of_memory = Unit {0}
IsNameReason e a kind = IsNameFault e a kind

-- the import that is meant, with the signature that is fixed, if one is; or the reason of the fault
unfoldable pub IsClassified : NameScope → CoreImport → Result Import NameFault → Type 0
IsClassified e a (Ok i) = (required_type : Option FuncTypeValue) × Classified e a (means (import_view i) required_type) × HasSignature a.ty required_type
IsClassified e a (Err f) = IsNameReason e a (fault_kind f)

-- a classification that is no None: an import, or a fault
abbrev pub answer_of : Result Import NameFault → Result (Option Import) NameFault
answer_of (Ok i) = Ok (Some i)
answer_of (Err f) = Err f

abbrev pub IsSomeClassification : (Meaning → Type 0) → FuncTypeValue → Result Import NameFault → Type 0
IsSomeClassification Means ty result = IsImportClassification fault_kind Means ty (answer_of result)

-- a classification that is no None, where the function's type is part of what the name means
abbrev pub IsSomeFunctionClassification : (FuncTypeValue → Meaning → Type 0) → FuncType → Result Import NameFault → Type 0
IsSomeFunctionClassification MeansOf ty result = IsSomeClassification (MeansOf (func_type_value ty)) (func_type_value ty) result

-- what is imported and is no function, by its kind
abbrev pub IsOtherItem : List ℕ → List ℕ → ExportKind → Result Import NameFault → Type 0
IsOtherItem from name kind result =
    (e : NameScope) (ty : ExternType) → ¬ IsFunction ty → extern_kind ty ≡ kind → IsNoMainMemory e (core_import from name ty)
    → IsClassified e (core_import from name ty) result
