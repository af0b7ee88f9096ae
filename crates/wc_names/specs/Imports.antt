-- What an import of a core module means: the first kind whose names hold it.
use Rattle.std.specs.Prelude.{◌≡◌, ◌⊎◌, ℕ, List, [], ◌∷◌, ◌++◌, map, Bool, true, false, Some, None, codes, if◌then◌else◌, Contains}
use Rattle.std.specs.Option.{IsSome}
use Rattle.wc_read.specs.declared.types.ValType.{ValType}
use Rattle.wc_read.specs.declared.types.ValType.TheVariants as core
use Rattle.wc_read.specs.declared.types.MemoryType.{MemoryType}
use Rattle.wc_read.specs.declared.types.TableType.{TableType}
use Rattle.wc_read.specs.declared.types.GlobalType.{GlobalType}
use Rattle.wc_read.specs.declared.exports.ExportKind.{ExportKind}
use Rattle.wc_read.specs.declared.exports.ExportKind.TheVariants.{Func, Table, Memory, Global}
use Rattle.wc_read.specs.Types.{FuncTypeValue, names_types}
use Rattle.wc_resolve.specs.declared.functions.AbiVariant.{AbiVariant}
use Rattle.wc_resolve.specs.declared.functions.AbiVariant.TheVariants.{GuestImport, GuestImportAsync}
use Rattle.wc_resolve.specs.declared.flat.WasmType.{WasmType}
use Rattle.wc_resolve.specs.declared.flat.WasmType.TheVariants as flat
use Rattle.wc_resolve.specs.Flat.{flat_of}
use Rattle.wc_resolve.specs.Signature.{SignatureView, flatten_functype}
use Rattle.wc_resolve.specs.Views.{plain_key, FunctionView, WorldView}
use Rattle.wc_resolve.specs.Kinds.{ResolveView}
use Rattle.wc_names.specs.Builtins.{signature, NamesBuiltin, builtin_type, builtin_import}
use Rattle.wc_names.specs.Environment.{environment_meaning, environment_module, NamesEnvironment}
use Rattle.wc_names.specs.First.{FirstOf}
use Rattle.wc_names.specs.Interfaces.{FoundInterface, NamesInterface}
use Rattle.wc_names.specs.Keys.{Scope, world_scope, interface_scope, item_under, function_named}
use Rattle.wc_names.specs.Meanings.{not_a_function, no_root_import, root_not_function, bad_syntax, unknown_interface, unknown_intrinsic, missing_function, typed_reference, Meaning, means, refuses}
use Rattle.wc_names.specs.Mangling.{Scheme, standard, legacy, marker, root_module, interface_prefix, export_prefix, NamesFunction}
use Rattle.wc_names.specs.Views.{Builtin, ImportView, world_func, interface_func, adapter_export, main_module_memory, main_module_export}
use Rattle.wc_names.specs.WitIntrinsics.{WitIntrinsic, wit_intrinsics, IsWitIntrinsic}

-- what names are looked up in: a `Resolve`, a world of it, the names of adapters, whether legacy names are rejected, and
-- the name of the task hook
pub record NameScope : Type 0 where
  pub resolve : ResolveView
  pub world : WorldView
  pub adapters : List (List ℕ)
  pub reject_legacy_names : Bool
  pub hook : List ℕ

-- an external type (WebAssembly core specification, 2.3.11)
pub data ExternType : Type 0 where
  func_type : FuncTypeValue → ExternType
  table_type : TableType → ExternType
  memory_type : MemoryType → ExternType
  global_type : GlobalType → ExternType

abbrev pub extern_kind : ExternType → ExportKind
extern_kind (func_type ty) = Func
extern_kind (table_type ty) = Table
extern_kind (memory_type ty) = Memory
extern_kind (global_type ty) = Global

-- an import of a core module: the name of a module, its own name, and its type
pub record CoreImport : Type 0 where
  pub from : List ℕ
  pub name : List ℕ
  pub ty : ExternType

-- an import of a function: the name of its module as a scheme reads it, its own name, and its type
pub record CoreFunction : Type 0 where
  pub from : List ℕ
  pub name : List ℕ
  pub ty : FuncTypeValue

-- the value type of a core type: pointers and lengths are 32 bits
abbrev pub val_type : WasmType → ValType
val_type flat.I32 = core.I32
val_type flat.I64 = core.I64
val_type flat.F32 = core.F32
val_type flat.F64 = core.F64
val_type flat.Pointer = core.I32
val_type flat.PointerOrI64 = core.I64
val_type flat.Length = core.I32

abbrev pub signature_type : SignatureView → FuncTypeValue
signature_type s = signature (map val_type s.params) (map val_type s.results)

-- the core type of a function
abbrev pub function_type : ResolveView → AbiVariant → FunctionView → FuncTypeValue
function_type r abi f = signature_type (flatten_functype (flat_of r.types) abi f)

abbrev pub import_abi : Bool → AbiVariant
import_abi true = GuestImportAsync
import_abi false = GuestImport

-- what an imported function means that is lowered in this way
abbrev pub NamesFunctionAs : Scheme → List ℕ → AbiVariant → List ℕ → Type 0
NamesFunctionAs s function abi name = (is_async : Bool) × NamesFunction s is_async function name × (abi ≡ import_abi is_async)

-- the kinds of functions that a scheme names: of the root, of the environment, of the root of exports, of interfaces
-- that are exported, and of those that are imported; some of the kinds are refused
pub data Kind : Type 0 where
  root_builtin : Kind
  root_function : Kind
  root_intrinsic : WitIntrinsic → Kind
  root_other_item : Kind
  root_unknown : Kind
  environment : Kind
  export_root_intrinsic : WitIntrinsic → Kind
  without_prefix : Kind
  export_unknown : Kind
  export_intrinsic : WitIntrinsic → Kind
  export_other_name : Kind
  interface_unknown : Kind
  interface_function : Kind
  interface_intrinsic : WitIntrinsic → Kind
  interface_other_name : Kind

-- the kinds of functions, in their order
abbrev pub kinds : List Kind
kinds =
    root_builtin ∷ root_function ∷ (map root_intrinsic (wit_intrinsics true)
    ++ (root_other_item ∷ root_unknown ∷ environment ∷ (map export_root_intrinsic (wit_intrinsics false)
    ++ (without_prefix ∷ export_unknown ∷ (map export_intrinsic (wit_intrinsics false)
    ++ (export_other_name ∷ interface_unknown ∷ interface_function ∷ (map interface_intrinsic (wit_intrinsics true)
    ++ (interface_other_name ∷ []))))))))

-- the module's name is that of an export, and this text is after it
abbrev pub IsExportModule : Scheme → List ℕ → List ℕ → Type 0
IsExportModule s from text = from ≡ interface_prefix s ++ (export_prefix s ++ text)

abbrev pub IsInterfaceModule : Scheme → List ℕ → List ℕ → Type 0
IsInterfaceModule s from text = from ≡ interface_prefix s ++ text

-- the module's name is about an interface that the world exports, or about one that it imports
abbrev pub NamesExportedInterface : Scheme → NameScope → List ℕ → FoundInterface → Type 0
NamesExportedInterface s e from found = (text : List ℕ) × IsExportModule s from text × NamesInterface s e.resolve e.world.exports text found

abbrev pub NamesImportedInterface : Scheme → NameScope → List ℕ → FoundInterface → Type 0
NamesImportedInterface s e from found = (text : List ℕ) × IsInterfaceModule s from text × NamesInterface s e.resolve e.world.imports text found

abbrev pub scope_of : FoundInterface → Scope
scope_of found = interface_scope found.0 found.1

abbrev pub IsKind : Scheme → NameScope → CoreFunction → Kind → Meaning → Type 0
IsKind s e c root_builtin m = (c.from ≡ root_module s) × (b : Builtin) × NamesBuiltin s b c.name × (m ≡ means (builtin_import b) (Some (builtin_type b)))
IsKind s e c root_function m =
    (c.from ≡ root_module s) × (is_async : Bool) × (name : List ℕ) × (f : FunctionView) × NamesFunction s is_async name c.name
    × (function_named e.resolve e.world true world_scope name ≡ Some f)
    × (m ≡ means (world_func (plain_key name) f.name (import_abi is_async)) (Some (function_type e.resolve (import_abi is_async) f)))
IsKind s e c (root_intrinsic k) m = (c.from ≡ root_module s) × IsWitIntrinsic s e.resolve e.world true world_scope c.name k m
IsKind s e c root_other_item m =
    (c.from ≡ root_module s) × (is_async : Bool) × (name : List ℕ) × NamesFunction s is_async name c.name
    × IsSome (item_under e.world.imports (plain_key name)) × (m ≡ refuses root_not_function)
IsKind s e c root_unknown m = (c.from ≡ root_module s) × (m ≡ refuses no_root_import)
IsKind s e c environment m =
    (c.from ≡ environment_module) × (i : ImportView) × NamesEnvironment s c.name c.ty i × (m ≡ environment_meaning i)
IsKind s e c (export_root_intrinsic k) m =
    (c.from ≡ export_prefix s ++ root_module s) × IsWitIntrinsic s e.resolve e.world false world_scope c.name k m
IsKind s e c without_prefix m = ((text : List ℕ) → ¬ IsInterfaceModule s c.from text) × (m ≡ refuses bad_syntax)
IsKind s e c export_unknown m =
    (text : List ℕ) × IsExportModule s c.from text
    × ((found : FoundInterface) → ¬ NamesInterface s e.resolve e.world.exports text found) × (m ≡ refuses unknown_interface)
IsKind s e c (export_intrinsic k) m =
    (found : FoundInterface) × NamesExportedInterface s e c.from found × IsWitIntrinsic s e.resolve e.world false (scope_of found) c.name k m
IsKind s e c export_other_name m = (text : List ℕ) × IsExportModule s c.from text × (m ≡ refuses unknown_intrinsic)
IsKind s e c interface_unknown m =
    (text : List ℕ) × IsInterfaceModule s c.from text
    × ((found : FoundInterface) → ¬ NamesInterface s e.resolve e.world.imports text found) × (m ≡ refuses unknown_interface)
IsKind s e c interface_function m =
    (found : FoundInterface) × (is_async : Bool) × (name : List ℕ) × (f : FunctionView)
    × NamesImportedInterface s e c.from found × NamesFunction s is_async name c.name
    × (function_named e.resolve e.world true (scope_of found) name ≡ Some f)
    × (m ≡ means (interface_func found.0 found.1 f.name (import_abi is_async)) (Some (function_type e.resolve (import_abi is_async) f)))
IsKind s e c (interface_intrinsic k) m =
    (found : FoundInterface) × NamesImportedInterface s e c.from found × IsWitIntrinsic s e.resolve e.world true (scope_of found) c.name k m
IsKind s e c interface_other_name m = m ≡ refuses missing_function

-- the scheme that a module's name is read by, and the name as that scheme reads it
abbrev pub IsReadBy : NameScope → List ℕ → Scheme → List ℕ → Type 0
IsReadBy e from s name =
    ((from ≡ marker ++ name) × (s ≡ standard))
    ⊎ (((text : List ℕ) → ¬ (from ≡ marker ++ text)) × (name ≡ from) × (s ≡ (if e.reject_legacy_names then standard else legacy e.hook)))

-- all kinds of imports: four of no scheme, and those of the schemes
pub data Rule : Type 0 where
  main_memory : Rule
  main_item : Rule
  not_function : Rule
  adapter_function : Rule
  by_scheme : Kind → Rule

-- the kinds of imports, in their order
abbrev pub rules : List Rule
rules = main_memory ∷ main_item ∷ not_function ∷ adapter_function ∷ map by_scheme kinds

abbrev pub IsFunction : ExternType → Type 0
IsFunction item = (ty : FuncTypeValue) × (item ≡ func_type ty)

-- a function that an adapter exports; refused where its type has indices of types, which mean nothing in the adapter
abbrev pub adapter_meaning : List ℕ → List ℕ → FuncTypeValue → Meaning
adapter_meaning adapter name ty =
    if names_types ty then refuses typed_reference else means (adapter_export adapter name ty) None

abbrev pub IsRule : NameScope → CoreImport → Rule → Meaning → Type 0
IsRule e a main_memory m =
    (a.from ≡ environment_module) × (a.name ≡ codes "memory") × (ty : MemoryType) × (a.ty ≡ memory_type ty) × (m ≡ means (main_module_memory ty) None)
IsRule e a main_item m = (a.from ≡ codes "__main_module__") × (m ≡ means (main_module_export a.name (extern_kind a.ty)) None)
IsRule e a not_function m = (¬ IsFunction a.ty) × (m ≡ refuses not_a_function)
IsRule e a adapter_function m =
    Contains e.adapters a.from × (ty : FuncTypeValue) × (a.ty ≡ func_type ty) × (m ≡ adapter_meaning a.from a.name ty)
IsRule e a (by_scheme k) m =
    (ty : FuncTypeValue) × (s : Scheme) × (from : List ℕ) × (a.ty ≡ func_type ty) × IsReadBy e a.from s from
    × IsKind s e (record { from = from; name = a.name; ty = ty }) k m

-- what an import means
abbrev pub Classified : NameScope → CoreImport → Meaning → Type 0
Classified e a m = FirstOf (IsRule e a) rules m
