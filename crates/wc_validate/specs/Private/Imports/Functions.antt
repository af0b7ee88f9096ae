-- What imports of functions are, as the code has them: what the parts of their classification answer.
use Rattle.std.specs.Prelude.{ℕ, List, Option, Result, ◌∷◌, [], Err}
use Rattle.wc_read.specs.declared.types.FuncType.{FuncType}
use Rattle.wc_names.specs.declared.imports.Import.{Import}
use Rattle.wc_names.specs.Imports.{CoreImport, Kind, NameScope, root_other_item, root_unknown}
use Rattle.wc_names.specs.Mangling.{Scheme}
use Rattle.wc_validate.specs.declared.name_fault.NameFault.{NameFault}
use Rattle.wc_validate.specs.declared.imports.items.ImportedFunction.{ImportedFunction}
use Rattle.wc_validate.specs.Fault.{IsFunctionClassified}
use Rattle.wc_validate.specs.Private.Imports.Kinds.{MeansAmong, MeansByScheme, MeansInExport, MeansInImport, MeansInRoot, IsRootKind, MeansEnvironment}
use Rattle.wc_validate.specs.Imports.Classify.{IsSomeFunctionClassification, core_function}

-- the import of a function
abbrev pub function_item_view : ImportedFunction → CoreImport
function_item_view f = core_function f.module_name.now f.name.now f.ty.now

-- what the import of a function is among some of a scheme's kinds, if it is one of them
abbrev pub IsAmong : Scheme → NameScope → List Kind → ImportedFunction → Result (Option Import) NameFault → Type 0
IsAmong s e some_kinds f result = IsFunctionClassified (MeansAmong s e some_kinds f.module_name.now f.name.now) f.ty.now result

-- what the import of a function is among some of a scheme's kinds, where it always is one of them
abbrev pub IsDecidedAmong : Scheme → NameScope → List Kind → ImportedFunction → Result Import NameFault → Type 0
IsDecidedAmong s e some_kinds f result = IsSomeFunctionClassification (MeansAmong s e some_kinds f.module_name.now f.name.now) f.ty.now result

-- what the import of a function from the root is, by its name and its type
abbrev pub IsDecidedInRoot : Scheme → NameScope → List Kind → List ℕ → FuncType → Result Import NameFault → Type 0
IsDecidedInRoot s e some_kinds name ty result = IsSomeFunctionClassification (MeansInRoot s e some_kinds name) ty result

-- what the import of a function is from the module of an imported or exported interface, by the text that the module's
-- name has for it
abbrev pub IsDecidedInImport : Scheme → NameScope → List ℕ → ImportedFunction → Result Import NameFault → Type 0
IsDecidedInImport s e text f result = IsSomeFunctionClassification (MeansInImport s e text f.name.now) f.ty.now result

abbrev pub IsDecidedInExport : Scheme → NameScope → List ℕ → ImportedFunction → Result Import NameFault → Type 0
IsDecidedInExport s e text f result = IsSomeFunctionClassification (MeansInExport s e text f.name.now) f.ty.now result

-- what the import of a function is by the scheme that reads the module's name
abbrev pub IsDecidedByScheme : NameScope → ImportedFunction → Result Import NameFault → Type 0
IsDecidedByScheme e f result = IsSomeFunctionClassification (MeansByScheme e f.module_name.now f.name.now) f.ty.now result

-- what the import of a function from the environment is; and of one kind from the root
abbrev pub IsOfEnvironment : Scheme → ImportedFunction → Result (Option Import) NameFault → Type 0
IsOfEnvironment s f result = IsFunctionClassified (MeansEnvironment s f.module_name.now f.name.now) f.ty.now result

abbrev pub IsOfRootKind : Scheme → NameScope → Kind → List ℕ → FuncType → Result (Option Import) NameFault → Type 0
IsOfRootKind s e kind name ty result = IsFunctionClassified (IsRootKind s e kind name) ty result

-- why a name from the root is refused that is neither a function nor a built-in, whatever the type
abbrev pub IsRootRefusal : Scheme → NameScope → List ℕ → NameFault → Type 0
IsRootRefusal s e name f = (ty : FuncType) → IsDecidedInRoot s e (root_other_item ∷ root_unknown ∷ []) name ty (Err f)
