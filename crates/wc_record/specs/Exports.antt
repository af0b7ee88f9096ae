-- Exports of core modules as JSON: objects whose member `kind` says which export it is.
use Rattle.std.specs.Prelude.{ℕ, List, [], ◌∷◌, codes}
use Rattle.json.specs.Json.{Json}
use Rattle.wc_names.specs.ExportViews.{ExportView, exported_func, exported_func_post_return, exported_interface_func, exported_interface_func_post_return, resource_dtor, exported_memory, general_purpose_realloc, general_purpose_export_realloc, general_purpose_import_realloc, initialize, realloc_for_adapter, exported_func_callback, exported_interface_func_callback, indirect_function_table, wasm_task_hook}
use Rattle.wc_resolve.specs.Views.{KeyView}
use Rattle.wc_record.specs.CoreTypes.{memory_type_json}
use Rattle.wc_record.specs.Imports.{interface_function_json, key_field, name_field, type_id_field, world_function_json}
use Rattle.wc_record.specs.Objects.{object_of_kind, plain_kind}

abbrev pub key_kind : List ℕ → KeyView → Json
key_kind kind key = object_of_kind kind (key_field key ∷ [])

abbrev pub key_and_name_json : List ℕ → KeyView → List ℕ → Json
key_and_name_json kind key name = object_of_kind kind (key_field key ∷ name_field name ∷ [])

abbrev pub export_json : ExportView → Json
export_json (exported_func key name abi) = world_function_json key name abi
export_json (exported_func_post_return key) = key_kind (codes "world-func-post-return") key
export_json (exported_interface_func key id name abi) = interface_function_json key id name abi
export_json (exported_interface_func_post_return key name) = key_and_name_json (codes "interface-func-post-return") key name
export_json (resource_dtor id) = object_of_kind (codes "resource-dtor") (type_id_field id ∷ [])
export_json (exported_memory ty) = object_of_kind (codes "memory") ((codes "type", memory_type_json ty) ∷ [])
export_json general_purpose_realloc = plain_kind (codes "general-purpose-realloc")
export_json general_purpose_export_realloc = plain_kind (codes "general-purpose-export-realloc")
export_json general_purpose_import_realloc = plain_kind (codes "general-purpose-import-realloc")
export_json initialize = plain_kind (codes "initialize")
export_json realloc_for_adapter = plain_kind (codes "realloc-for-adapter")
export_json (exported_func_callback key) = key_kind (codes "world-func-callback") key
export_json (exported_interface_func_callback key name) = key_and_name_json (codes "interface-func-callback") key name
export_json indirect_function_table = plain_kind (codes "indirect-function-table")
export_json wasm_task_hook = plain_kind (codes "wasm-task-hook")
