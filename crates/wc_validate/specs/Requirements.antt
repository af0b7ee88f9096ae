-- What has to be among the exports of a core module, and what is missing first.
use Rattle.std.specs.Prelude.{◌≡◌, ◌⊎◌, ◌≤◌, ◌||◌, ◌+◌, ℕ, List, [], ◌∷◌, ◌++◌, map, not, Bool, true, false, Option, Some, None, IsTrue, All, Contains, codes, slice_get, if◌then◌else◌}
use Rattle.std.specs.List.{filter_map}
use Rattle.std.specs.Map.{lookup}
use Rattle.std.specs.Option.{IsSome, option_and_then, option_map, option_map_or}
use Rattle.std.specs.Str.{bytes_eq}
use Rattle.wc_read.specs.Types.{FuncTypeValue, names_types}
use Rattle.wc_resolve.specs.declared.functions.AbiVariant.TheVariants.{GuestExportAsync}
use Rattle.wc_resolve.specs.Views.{FunctionView, InterfaceView, ItemView, KeyView, function_item, interface_item}
use Rattle.wc_resolve.specs.Kinds.{ResolveView}
use Rattle.wc_adapters.specs.Entries.{Entries}
use Rattle.wc_names.specs.Exports.{CoreExport}
use Rattle.wc_names.specs.ExportViews.{ExportView, exported_func, exported_func_callback, exported_interface_func, exported_interface_func_callback}
use Rattle.wc_names.specs.Imports.{ExternType, func_type}
use Rattle.wc_names.specs.Keys.{item_under}
use Rattle.wc_validate.specs.declared.fault.ValidateFault.{ValidateFault}
use Rattle.wc_validate.specs.declared.fault.ValidateFault.TheVariants.{Memory, SeveralMemoryExports, MissingCallback, MissingInterfaceExport, MissingWorldExport, AdapterModuleDidNotExport, AdapterExportType, TypedReference}
use Rattle.wc_validate.specs.Exports.Map.{ExportRecord, is_memory}
use Rattle.wc_validate.specs.Texts.{name_not_exported}

-- at most one memory; a callback for each function that is lifted with one; all functions of the interface at an index; a
-- function of the world; a function of a name and type
pub data Requirement : Type 0 where
  one_memory : Requirement
  callbacks : Requirement
  interface_functions : ℕ → Requirement
  world_function : List ℕ → Requirement
  typed_function : List ℕ → FuncTypeValue → Requirement

-- how many memories are recorded
abbrev pub memory_count : ExportRecord → ℕ
memory_count [] = 0
memory_count (x ∷ xs) = if is_memory x.1 then memory_count xs + 1 else memory_count xs

-- the name of the callback of an export
abbrev pub callback_name : List ℕ → List ℕ
callback_name name = codes "[callback]" ++ name

-- functions that are lifted asynchronously with a callback need one
abbrev pub needs_callback : ExportView → Bool
needs_callback (exported_func key name GuestExportAsync) = true
needs_callback (exported_interface_func key i name GuestExportAsync) = true
needs_callback x = false

-- a callback of a function of the world, or of one of an interface
abbrev pub is_callback_for : ExportView → ExportView → Bool
is_callback_for (exported_func key name abi) (exported_func_callback k) = true
is_callback_for (exported_interface_func key i name abi) (exported_interface_func_callback k n) = true
is_callback_for x y = false

-- an export has its callback, if it needs one
unfoldable pub is_called_back : ExportRecord → List ℕ × ExportView → Bool
is_called_back recorded e = not (needs_callback e.1) || option_map_or (is_callback_for e.1) (lookup (bytes_eq (callback_name e.0)) recorded) false

-- the function that an export is: its interface, if it is of one, and its name
abbrev pub function_name : List ℕ × ExportView → Option (Option ℕ × List ℕ)
function_name (n, exported_func key name abi) = Some (None, name)
function_name (n, exported_interface_func key i name abi) = Some (Some i, name)
function_name (n, x) = None

abbrev pub function_names : ExportRecord → List (Option ℕ × List ℕ)
function_names recorded = filter_map function_name recorded

-- the functions of the interface at an index
abbrev pub functions_of : ResolveView → ℕ → List (List ℕ × FunctionView)
functions_of r i = option_map_or (λ (v : InterfaceView). v.functions) (slice_get r.interfaces i) []

-- an export that is a function, by its name
abbrev pub as_function_type : ExternType → Option FuncTypeValue
as_function_type (func_type ty) = Some ty
as_function_type ty = None

abbrev pub typed_name : CoreExport → Option (List ℕ × FuncTypeValue)
typed_name x = option_map (λ (ty : FuncTypeValue). (x.name, ty)) (as_function_type x.ty)

-- the type of the function that is exported by a name
abbrev pub exported_type : List CoreExport → List ℕ → Option FuncTypeValue
exported_type xs name = lookup (bytes_eq name) (filter_map typed_name xs)

-- a requirement is met by the exports of a module, and what they are recorded as
abbrev pub IsMet : ResolveView → List CoreExport → ExportRecord → Requirement → Type 0
IsMet r xs recorded one_memory = memory_count recorded ≤ 1
IsMet r xs recorded callbacks = All (λ e. IsTrue (is_called_back recorded e)) recorded
IsMet r xs recorded (interface_functions i) = All (λ (f : List ℕ × FunctionView). Contains (function_names recorded) (Some i, f.0)) (functions_of r i)
IsMet r xs recorded (world_function name) = Contains (function_names recorded) (None, name)
IsMet r xs recorded (typed_function name ty) = (names_types ty ≡ false) × (exported_type xs name ≡ Some ty)

-- what is said of a requirement that is not met
abbrev pub IsShortfall : List CoreExport → Requirement → ValidateFault → Type 0
IsShortfall xs one_memory SeveralMemoryExports = Unit {0}
IsShortfall xs callbacks MissingCallback = Unit {0}
IsShortfall xs (interface_functions i) MissingInterfaceExport = Unit {0}
IsShortfall xs (world_function name) MissingWorldExport = Unit {0}
IsShortfall xs (typed_function name ty) TypedReference = names_types ty ≡ true
IsShortfall xs (typed_function name ty) (AdapterModuleDidNotExport e) =
    (names_types ty ≡ false) × (exported_type xs name ≡ None) × (name_not_exported e ≡ name)
IsShortfall xs (typed_function name ty) AdapterExportType = (names_types ty ≡ false) × IsSome (exported_type xs name)
IsShortfall xs need f = ⊥

-- all requirements of a list are met
abbrev pub AreMet : ResolveView → List CoreExport → ExportRecord → List Requirement → Type 0
AreMet r xs recorded [] = Unit {0}
AreMet r xs recorded (need ∷ needs) = IsMet r xs recorded need × AreMet r xs recorded needs

-- the fault of the first of them that is not met
abbrev pub IsFirstUnmet : ResolveView → List CoreExport → ExportRecord → List Requirement → ValidateFault → Type 0
IsFirstUnmet r xs recorded [] f = ⊥
IsFirstUnmet r xs recorded (need ∷ needs) f =
    ((¬ IsMet r xs recorded need) × IsShortfall xs need f) ⊎ (IsMet r xs recorded need × IsFirstUnmet r xs recorded needs f)

-- the fault of the first requirement that is not met, or an allocation failed
abbrev pub IsUnmetFault : ResolveView → List CoreExport → ExportRecord → List Requirement → ValidateFault → Type 0
IsUnmetFault r xs recorded needs Memory = Unit {0}
IsUnmetFault r xs recorded needs f = IsFirstUnmet r xs recorded needs f

-- what a key of an export set requires; nothing, where the world does not export it
abbrev pub item_requirement : ItemView → Option Requirement
item_requirement (interface_item i external) = Some (interface_functions i)
item_requirement (function_item f) = Some (world_function f.name)
item_requirement x = None

abbrev pub key_requirement : Entries → KeyView → Option Requirement
key_requirement exports key = option_and_then item_requirement (item_under exports key)

abbrev pub key_requirements : Entries → List KeyView → List Requirement
key_requirements exports keys = filter_map (key_requirement exports) keys

-- what another module requires of an adapter
abbrev pub type_requirement : List ℕ × FuncTypeValue → Requirement
type_requirement f = typed_function f.0 f.1

-- all requirements in their order
abbrev pub requirements : Entries → List KeyView → List (List ℕ × FuncTypeValue) → List Requirement
requirements exports keys required = one_memory ∷ callbacks ∷ (key_requirements exports keys ++ map type_requirement required)
