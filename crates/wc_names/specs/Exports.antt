-- What an export of a core module means: the first kind whose names hold it.
use Rattle.std.specs.Prelude.{◌≡◌, ◌⊎◌, ℕ, List, [], ◌∷◌, ◌++◌, map, false, Option, Some, None, codes}
use Rattle.std.specs.Option.{option_map_or}
use Rattle.wc_read.specs.declared.types.MemoryType.{MemoryType}
use Rattle.wc_read.specs.declared.types.TableType.{TableType}
use Rattle.wc_read.specs.declared.types.ValType.TheVariants.{I32}
use Rattle.wc_read.specs.Types.{FuncTypeValue}
use Rattle.wc_resolve.specs.declared.functions.AbiVariant.{AbiVariant}
use Rattle.wc_resolve.specs.declared.functions.AbiVariant.TheVariants.{GuestExport, GuestExportAsync, GuestExportAsyncStackful}
use Rattle.wc_resolve.specs.Views.{KeyView, FunctionView}
use Rattle.wc_resolve.specs.Kinds.{ResolveView}
use Rattle.wc_names.specs.Builtins.{signature}
use Rattle.wc_names.specs.ExportNames.{ExportTarget, NamesDestructor, NamesFunctionExport, export_syntax}
use Rattle.wc_names.specs.ExportViews.{ExportView, exported_func, exported_func_callback, exported_func_post_return, exported_interface_func, exported_interface_func_callback, exported_interface_func_post_return, exported_memory, general_purpose_export_realloc, general_purpose_import_realloc, general_purpose_realloc, indirect_function_table, initialize, realloc_for_adapter, resource_dtor, wasm_task_hook}
use Rattle.wc_names.specs.First.{FirstOf}
use Rattle.wc_names.specs.Imports.{ExternType, NameScope, func_type, function_type, memory_type, table_type}
use Rattle.wc_names.specs.Mangling.{Scheme, standard, legacy, marker, function_table_name, initialize_name, memory_name, realloc_name, task_hook_name, NamesAsyncLift, NamesCallback, NamesPostReturn, NamesStackfulLift}

-- an export of a core module: its name, and the type of what it exports
pub record CoreExport : Type 0 where
  pub name : List ℕ
  pub ty : ExternType

-- what a name means: an export, with the signature that it must have, if its name fixes one
pub record ExportMeaning : Type 0 where
  pub export : ExportView
  pub ty : Option FuncTypeValue

abbrev pub is_export : ExportView → Option FuncTypeValue → ExportMeaning
is_export export ty = record { export = export; ty = ty }

-- four reallocs, whatever is exported by these names
pub data AnyTypeName : Type 0 where
  canonical_abi_realloc : AnyTypeName
  cabi_import_realloc : AnyTypeName
  cabi_export_realloc : AnyTypeName
  cabi_realloc_adapter : AnyTypeName

pub record AnyTypeRow : Type 0 where
  pub text : List ℕ
  pub export : ExportView

abbrev pub any_type_row : AnyTypeName → AnyTypeRow
any_type_row canonical_abi_realloc = record { text = codes "canonical_abi_realloc"; export = general_purpose_realloc }
any_type_row cabi_import_realloc = record { text = codes "cabi_import_realloc"; export = general_purpose_import_realloc }
any_type_row cabi_export_realloc = record { text = codes "cabi_export_realloc"; export = general_purpose_export_realloc }
any_type_row cabi_realloc_adapter = record { text = codes "cabi_realloc_adapter"; export = realloc_for_adapter }

-- how an exported function is lifted (component model, Canonical ABI, "canon lift"), and the name without what says so
abbrev pub IsLifted : Scheme → List ℕ → AbiVariant → List ℕ → Type 0
IsLifted s name abi lifted =
    (NamesAsyncLift s lifted name × (abi ≡ GuestExportAsync))
    ⊎ ((NamesStackfulLift s lifted name × (abi ≡ GuestExportAsyncStackful))
    ⊎ (((other : List ℕ) → ¬ NamesAsyncLift s other name) × ((other : List ℕ) → ¬ NamesStackfulLift s other name) × (lifted ≡ name) × (abi ≡ GuestExport)))

-- what is recorded of a function that is exported, with its interface if it is of one
abbrev pub function_export : AbiVariant → ExportTarget → ExportView
function_export abi t = option_map_or (λ (i : ℕ). exported_interface_func t.key i t.function.name abi) t.interface (exported_func t.key t.function.name abi)

abbrev pub post_return_export : ExportTarget → ExportView
post_return_export t = option_map_or (λ (i : ℕ). exported_interface_func_post_return t.key t.function.name) t.interface (exported_func_post_return t.key)

abbrev pub callback_export : ExportTarget → ExportView
callback_export t = option_map_or (λ (i : ℕ). exported_interface_func_callback t.key t.function.name) t.interface (exported_func_callback t.key)

-- the function that runs after the return of another has for its parameters what that returned, as it is exported
-- synchronously
abbrev pub post_return_type : ResolveView → FunctionView → FuncTypeValue
post_return_type r f = signature (function_type r GuestExport f).results []

-- the type of a callback: an event's code, its index and its payload, and what is waited for next
abbrev pub callback_type : FuncTypeValue
callback_type = signature (I32 ∷ I32 ∷ I32 ∷ []) (I32 ∷ [])

-- the kinds of exports that a scheme names
pub data ExportKind : Type 0 where
  memory : ExportKind
  function_table : ExportKind
  realloc : ExportKind
  initializer : ExportKind
  task_hook : ExportKind
  function : ExportKind
  post_return : ExportKind
  callback : ExportKind
  destructor : ExportKind

-- the kinds of exports that a scheme names, in their order
abbrev pub export_kinds : List ExportKind
export_kinds = memory ∷ function_table ∷ realloc ∷ initializer ∷ task_hook ∷ function ∷ post_return ∷ callback ∷ destructor ∷ []

-- an exported function of this name, by the scheme, of the keys of the export set
abbrev pub NamesTarget : Scheme → NameScope → List KeyView → List ℕ → ExportTarget → Type 0
NamesTarget s e keys name t = NamesFunctionExport (export_syntax s) e.resolve e.world.exports keys name t

abbrev pub IsExportKind : Scheme → NameScope → List KeyView → List ℕ → ExternType → ExportKind → ExportMeaning → Type 0
IsExportKind s e keys name ty memory m = (t : MemoryType) × (ty ≡ memory_type t) × (name ≡ memory_name s) × (m ≡ is_export (exported_memory t) None)
IsExportKind s e keys name ty function_table m =
    (t : TableType) × (ty ≡ table_type t) × (function_table_name s ≡ Some name) × (m ≡ is_export indirect_function_table None)
IsExportKind s e keys name ty realloc m =
    (t : FuncTypeValue) × (ty ≡ func_type t) × (name ≡ realloc_name s) ×
    (m ≡ is_export general_purpose_realloc (Some (signature (I32 ∷ I32 ∷ I32 ∷ I32 ∷ []) (I32 ∷ []))))
IsExportKind s e keys name ty initializer m =
    (t : FuncTypeValue) × (ty ≡ func_type t) × (name ≡ initialize_name s) × (m ≡ is_export initialize (Some (signature [] [])))
IsExportKind s e keys name ty task_hook m =
    (t : FuncTypeValue) × (ty ≡ func_type t) × (task_hook_name s ≡ Some name) × (m ≡ is_export wasm_task_hook (Some (signature (I32 ∷ []) [])))
IsExportKind s e keys name ty function m =
    (t : FuncTypeValue) × (abi : AbiVariant) × (lifted : List ℕ) × (f : ExportTarget) × (ty ≡ func_type t) × IsLifted s name abi lifted
    × NamesTarget s e keys lifted f
    × (m ≡ is_export (function_export abi f) (Some (function_type e.resolve abi f.function)))
IsExportKind s e keys name ty post_return m =
    (t : FuncTypeValue) × (abi : AbiVariant) × (lifted : List ℕ) × (returned : List ℕ) × (f : ExportTarget) × (ty ≡ func_type t) × IsLifted s name abi lifted
    × NamesPostReturn s returned lifted × NamesTarget s e keys returned f ×
    (m ≡ is_export (post_return_export f) (Some (post_return_type e.resolve f.function)))
IsExportKind s e keys name ty callback m =
    (t : FuncTypeValue) × (lifted : List ℕ) × (f : ExportTarget) × (ty ≡ func_type t) × NamesCallback s lifted name × NamesTarget s e keys lifted f
    × (m ≡ is_export (callback_export f) (Some callback_type))
IsExportKind s e keys name ty destructor m =
    (t : FuncTypeValue) × (abi : AbiVariant) × (lifted : List ℕ) × (resource : ℕ) × (ty ≡ func_type t) × IsLifted s name abi lifted
    × NamesDestructor (export_syntax s) e.resolve e.world.exports keys lifted resource ×
    (m ≡ is_export (resource_dtor resource) (Some (signature (I32 ∷ []) [])))

-- the scheme that an export's name is read by, and the name as that scheme reads it; where legacy names are rejected,
-- none reads a name that isn't of the standard scheme
abbrev pub IsExportReadBy : NameScope → List ℕ → Scheme → List ℕ → Type 0
IsExportReadBy e text s name =
    ((text ≡ marker ++ name) × (s ≡ standard))
    ⊎ (((other : List ℕ) → ¬ (text ≡ marker ++ other)) × (e.reject_legacy_names ≡ false) × (name ≡ text) × (s ≡ legacy e.hook))

-- all kinds of exports: those of any type, and those of the schemes
pub data ExportRule : Type 0 where
  any_type : ExportRule
  by_export_scheme : ExportKind → ExportRule

-- all kinds of exports, in their order
abbrev pub export_rules : List ExportRule
export_rules = any_type ∷ map by_export_scheme export_kinds

abbrev pub IsExportRule : NameScope → List KeyView → CoreExport → ExportRule → ExportMeaning → Type 0
IsExportRule e keys x any_type m = (row : AnyTypeName) × (x.name ≡ (any_type_row row).text) × (m ≡ is_export (any_type_row row).export None)
IsExportRule e keys x (by_export_scheme k) m = (s : Scheme) × (name : List ℕ) × IsExportReadBy e x.name s name × IsExportKind s e keys name x.ty k m

-- what an export means for an export set; other exports mean nothing
abbrev pub ClassifiedExport : NameScope → List KeyView → CoreExport → ExportMeaning → Type 0
ClassifiedExport e keys x m = FirstOf (IsExportRule e keys x) export_rules m
