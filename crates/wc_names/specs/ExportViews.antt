-- What contracts see of exports: texts as their bytes, ids as indices.
use Rattle.std.specs.Prelude.{ℕ, List, Option, string_bytes}
use Rattle.std.specs.Borrow.{Bor}
use Rattle.std.specs.Option.{option_map}
use Rattle.wc_read.specs.declared.types.MemoryType.{MemoryType}
use Rattle.wc_resolve.specs.declared.functions.AbiVariant.{AbiVariant}
use Rattle.wc_resolve.specs.declared.functions.Function.{Function}
use Rattle.wc_resolve.specs.declared.ids.InterfaceId.{InterfaceId}
use Rattle.wc_resolve.specs.declared.worlds.WorldKey.{WorldKey}
use Rattle.wc_resolve.specs.Dependencies.{id_of_interface}
use Rattle.wc_resolve.specs.Views.{KeyView, key_view, function_view}
use Rattle.wc_names.specs.declared.exports.Export.{Export}
use Rattle.wc_names.specs.declared.exports.Export.TheVariants as exports
use Rattle.wc_names.specs.ExportNames.{ExportTarget, target}

pub data ExportView : Type 0 where
  exported_func : KeyView → List ℕ → AbiVariant → ExportView
  exported_func_post_return : KeyView → ExportView
  exported_interface_func : KeyView → ℕ → List ℕ → AbiVariant → ExportView
  exported_interface_func_post_return : KeyView → List ℕ → ExportView
  resource_dtor : ℕ → ExportView
  exported_memory : MemoryType → ExportView
  general_purpose_realloc : ExportView
  general_purpose_export_realloc : ExportView
  general_purpose_import_realloc : ExportView
  initialize : ExportView
  realloc_for_adapter : ExportView
  exported_func_callback : KeyView → ExportView
  exported_interface_func_callback : KeyView → List ℕ → ExportView
  indirect_function_table : ExportView
  wasm_task_hook : ExportView

abbrev pub export_view : Export → ExportView
export_view (exports.WorldFunc key name abi) = exported_func (key_view key) (string_bytes name) abi
export_view (exports.WorldFuncPostReturn key) = exported_func_post_return (key_view key)
export_view (exports.InterfaceFunc key id name abi) = exported_interface_func (key_view key) id.0 (string_bytes name) abi
export_view (exports.InterfaceFuncPostReturn key name) = exported_interface_func_post_return (key_view key) (string_bytes name)
export_view (exports.ResourceDtor id) = resource_dtor id.0
export_view (exports.Memory ty) = exported_memory ty
export_view exports.GeneralPurposeRealloc = general_purpose_realloc
export_view exports.GeneralPurposeExportRealloc = general_purpose_export_realloc
export_view exports.GeneralPurposeImportRealloc = general_purpose_import_realloc
export_view exports.Initialize = initialize
export_view exports.ReallocForAdapter = realloc_for_adapter
export_view (exports.WorldFuncCallback key) = exported_func_callback (key_view key)
export_view (exports.InterfaceFuncCallback key name) = exported_interface_func_callback (key_view key) (string_bytes name)
export_view exports.IndirectFunctionTable = indirect_function_table
export_view exports.WasmTaskHook = wasm_task_hook

-- the function that an export is for: its key, its interface or none, and the function
abbrev pub export_target : Bor WorldKey × Option InterfaceId × Bor Function → ExportTarget
export_target t = target (key_view t.0.now) (option_map id_of_interface t.1) (function_view t.2.now)
