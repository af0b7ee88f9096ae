-- What is looked up in recorded exports: the first that passes a test.
use Rattle.std.specs.Prelude.{ℕ, List, Bool, true, false, Option, Some, None, ◌&&◌, nat_eq, String, string_bytes}
use Rattle.std.specs.List.{filter_map, find}
use Rattle.std.specs.Option.{option_map}
use Rattle.std.specs.Str.{bytes_eq}
use Rattle.std.specs.declared.alloc.Global.{Global}
use Rattle.wc_read.specs.declared.types.MemoryType.{MemoryType}
use Rattle.wc_resolve.specs.declared.functions.AbiVariant.{AbiVariant}
use Rattle.wc_resolve.specs.Views.{KeyView, key_view}
use Rattle.wc_names.specs.declared.exports.Export.{Export}
use Rattle.wc_names.specs.ExportViews.{ExportView, export_view, exported_func, exported_func_callback, exported_func_post_return, exported_interface_func, exported_interface_func_callback, exported_interface_func_post_return, exported_memory, general_purpose_export_realloc, general_purpose_import_realloc, general_purpose_realloc, indirect_function_table, initialize, realloc_for_adapter, resource_dtor, wasm_task_hook}
use Rattle.wc_names.specs.Keys.{key_eq}
use Rattle.wc_validate.specs.declared.exports.map.Query.{Query}
use Rattle.wc_validate.specs.declared.exports.map.Query.TheVariants as query

-- an export under its name
abbrev pub export_entry : String Global × Export → List ℕ × ExportView
export_entry e = (string_bytes e.0, export_view e.1)

abbrev pub ExportRecord : Type 0
ExportRecord = List (List ℕ × ExportView)

abbrev pub is_function : KeyView → List ℕ → ExportView → Bool
is_function key name (exported_func k n abi) = key_eq k key && bytes_eq name n
is_function key name (exported_interface_func k i n abi) = key_eq k key && bytes_eq name n
is_function key name x = false

abbrev pub is_post_return : KeyView → List ℕ → ExportView → Bool
is_post_return key name (exported_func_post_return k) = key_eq k key
is_post_return key name (exported_interface_func_post_return k n) = key_eq k key && bytes_eq name n
is_post_return key name x = false

abbrev pub is_callback : KeyView → List ℕ → ExportView → Bool
is_callback key name (exported_func_callback k) = key_eq k key
is_callback key name (exported_interface_func_callback k n) = key_eq k key && bytes_eq name n
is_callback key name x = false

abbrev pub is_destructor : ℕ → ExportView → Bool
is_destructor t (resource_dtor u) = nat_eq u t
is_destructor t x = false

abbrev pub is_memory : ExportView → Bool
is_memory (exported_memory ty) = true
is_memory x = false

abbrev pub is_function_table : ExportView → Bool
is_function_table indirect_function_table = true
is_function_table x = false

abbrev pub is_task_hook : ExportView → Bool
is_task_hook wasm_task_hook = true
is_task_hook x = false

abbrev pub is_initialize : ExportView → Bool
is_initialize initialize = true
is_initialize x = false

abbrev pub is_realloc : ExportView → Bool
is_realloc general_purpose_realloc = true
is_realloc x = false

abbrev pub is_export_realloc : ExportView → Bool
is_export_realloc general_purpose_export_realloc = true
is_export_realloc x = false

abbrev pub is_import_realloc : ExportView → Bool
is_import_realloc general_purpose_import_realloc = true
is_import_realloc x = false

abbrev pub is_adapter_realloc : ExportView → Bool
is_adapter_realloc realloc_for_adapter = true
is_adapter_realloc x = false

-- the test of a query
abbrev pub asked : Query → ExportView → Bool
asked (query.Function key name) = is_function (key_view key.now) name.now
asked (query.PostReturn key name) = is_post_return (key_view key.now) name.now
asked (query.Callback key name) = is_callback (key_view key.now) name.now
asked (query.Destructor id) = is_destructor id.0
asked query.Memory = is_memory
asked query.FunctionTable = is_function_table
asked query.TaskHook = is_task_hook
asked query.Initialize = is_initialize
asked query.Realloc = is_realloc
asked query.ExportRealloc = is_export_realloc
asked query.ImportRealloc = is_import_realloc
asked query.AdapterRealloc = is_adapter_realloc

-- the first that passes, and its name
abbrev pub first_that : (ExportView → Bool) → ExportRecord → Option (List ℕ × ExportView)
first_that test exports = find (λ (e : List ℕ × ExportView). test e.1) exports

abbrev pub first_name : (ExportView → Bool) → ExportRecord → Option (List ℕ)
first_name test exports = option_map (λ (e : List ℕ × ExportView). e.0) (first_that test exports)

-- the first of its own kind, else the general one
abbrev pub own_or_general : Option (List ℕ) → ExportRecord → Option (List ℕ)
own_or_general (Some name) exports = Some name
own_or_general None exports = first_name is_realloc exports

abbrev pub abi_of : ExportView → Option AbiVariant
abi_of (exported_func k n abi) = Some abi
abi_of (exported_interface_func k i n abi) = Some abi
abi_of x = None

-- a memory, with its name
abbrev pub memory_of : List ℕ × ExportView → Option (List ℕ × MemoryType)
memory_of (name, exported_memory ty) = Some (name, ty)
memory_of (name, x) = None

-- the exports that can be the realloc of a canonical option: not the realloc of adapters
abbrev pub realloc_name : List ℕ × ExportView → Option (List ℕ)
realloc_name (name, general_purpose_realloc) = Some name
realloc_name (name, general_purpose_export_realloc) = Some name
realloc_name (name, general_purpose_import_realloc) = Some name
realloc_name (name, x) = None

abbrev pub realloc_names : ExportRecord → List (List ℕ)
realloc_names exports = filter_map realloc_name exports
