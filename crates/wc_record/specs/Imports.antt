-- Imports of core modules as JSON: objects whose member `kind` says which import it is.
use Rattle.std.specs.Prelude.{ℕ, Bool, List, [], ◌∷◌, Option, codes}
use Rattle.json.specs.Json.{Json, boolean, string}
use Rattle.wc_names.specs.Views.{PayloadTypeView, typed, unit_future, unit_stream, PayloadView, Builtin, error_context_drop, backpressure_inc, backpressure_dec, waitable_set_new, waitable_set_wait, waitable_set_poll, waitable_set_drop, waitable_join, subtask_drop, subtask_cancel, error_context_new, error_context_debug_message, context_get, context_set, thread_index, thread_new_indirect, thread_resume_later, thread_suspend, thread_yield, thread_suspend_then_resume, thread_yield_then_resume, thread_suspend_then_promote, thread_yield_then_promote, ImportView, world_func, interface_func, imported_resource_drop, exported_resource_drop, exported_resource_new, exported_resource_rep, adapter_export, main_module_memory, main_module_export, library_item, exported_task_return, exported_task_cancel, tls_base_get, tls_base_set, wait_import, poll_import, builtin, async_value}
use Rattle.wc_names.specs.declared.async_values.AsyncValue.{AsyncValue}
use Rattle.wc_names.specs.declared.async_values.AsyncValue.TheVariants.{Future, Stream}
use Rattle.wc_names.specs.declared.async_values.Operation.{Operation}
use Rattle.wc_names.specs.declared.async_values.Operation.TheVariants.{New, Write, Read, CancelWrite, CancelRead, Forward, DropWritable, DropReadable}
use Rattle.wc_adapters.specs.declared.encoding.StringEncoding.{StringEncoding}
use Rattle.wc_read.specs.declared.types.ValType.{ValType}
use Rattle.wc_resolve.specs.Views.{KeyView}
use Rattle.wc_resolve.specs.declared.functions.AbiVariant.{AbiVariant}
use Rattle.wc_record.specs.CoreTypes.{export_kind_json, func_type_json, memory_type_json, val_type_json}
use Rattle.wc_record.specs.Libraries.{library_item_json}
use Rattle.wc_texts.specs.Shapes.{Field, nullable_json, number_json, object_of}
use Rattle.wc_record.specs.Objects.{object_of_kind, plain_kind}
use Rattle.wc_record.specs.Wit.{abi_json, encoding_json, key_json}

-- members that several kinds have

abbrev pub key_field : KeyView → Field
key_field key = (codes "key", key_json key)

abbrev pub name_field : List ℕ → Field
name_field name = (codes "name", string name)

abbrev pub interface_field : Option ℕ → Field
interface_field interface = (codes "interface", nullable_json number_json interface)

abbrev pub type_id_field : ℕ → Field
type_id_field id = (codes "type", number_json id)

abbrev pub val_type_field : ValType → Field
val_type_field ty = (codes "type", val_type_json ty)

-- kinds by their members

abbrev pub world_function_json : KeyView → List ℕ → AbiVariant → Json
world_function_json key name abi = object_of_kind (codes "world-func") (key_field key ∷ name_field name ∷ (codes "abi", abi_json abi) ∷ [])

abbrev pub interface_function_json : KeyView → ℕ → List ℕ → AbiVariant → Json
interface_function_json key id name abi =
    object_of_kind (codes "interface-func") (key_field key ∷ (codes "interface", number_json id) ∷ name_field name ∷ (codes "abi", abi_json abi) ∷ [])

abbrev pub key_and_type_json : List ℕ → KeyView → ℕ → Json
key_and_type_json kind key id = object_of_kind kind (key_field key ∷ type_id_field id ∷ [])

abbrev pub slot_json : List ℕ → ValType → ℕ → Json
slot_json kind ty slot = object_of_kind kind (val_type_field ty ∷ (codes "slot", number_json slot) ∷ [])

abbrev pub val_type_kind : List ℕ → ValType → Json
val_type_kind kind ty = object_of_kind kind (val_type_field ty ∷ [])

abbrev pub encoding_kind : List ℕ → StringEncoding → Json
encoding_kind kind encoding = object_of_kind kind ((codes "encoding", encoding_json encoding) ∷ [])

abbrev pub imported_drop_json : KeyView → Option ℕ → ℕ → Json
imported_drop_json key interface id = object_of_kind (codes "imported-resource-drop") (key_field key ∷ interface_field interface ∷ type_id_field id ∷ [])

-- the function by its name
abbrev pub task_return_json : KeyView → Option ℕ → List ℕ → Json
task_return_json key interface function =
    object_of_kind (codes "exported-task-return") (key_field key ∷ interface_field interface ∷ (codes "function", string function) ∷ [])

-- the future or stream that a built-in is for

abbrev pub payload_type_json : PayloadTypeView → Json
payload_type_json (typed id function) = object_of_kind (codes "typed") (type_id_field id ∷ (codes "function", string function) ∷ [])
payload_type_json unit_future = plain_kind (codes "unit-future")
payload_type_json unit_stream = plain_kind (codes "unit-stream")

abbrev pub payload_json : PayloadView → Json
payload_json p =
    object_of (
    name_field p.name ∷ (codes "type", payload_type_json p.ty) ∷ key_field p.key ∷ interface_field p.interface
    ∷ (codes "imported", boolean p.imported) ∷ []
    )

abbrev pub future_kind : Operation → List ℕ
future_kind New = codes "future-new"
future_kind Write = codes "future-write"
future_kind Read = codes "future-read"
future_kind CancelWrite = codes "future-cancel-write"
future_kind CancelRead = codes "future-cancel-read"
future_kind Forward = codes "future-forward"
future_kind DropWritable = codes "future-drop-writable"
future_kind DropReadable = codes "future-drop-readable"

abbrev pub stream_kind : Operation → List ℕ
stream_kind New = codes "stream-new"
stream_kind Write = codes "stream-write"
stream_kind Read = codes "stream-read"
stream_kind CancelWrite = codes "stream-cancel-write"
stream_kind CancelRead = codes "stream-cancel-read"
stream_kind Forward = codes "stream-forward"
stream_kind DropWritable = codes "stream-drop-writable"
stream_kind DropReadable = codes "stream-drop-readable"

abbrev pub async_value_kind : AsyncValue → Operation → List ℕ
async_value_kind Future = future_kind
async_value_kind Stream = stream_kind

-- whether it is called without waiting, and the future or stream
abbrev pub async_value_json : List ℕ → Bool → PayloadView → Json
async_value_json kind is_async payload = object_of_kind kind ((codes "async", boolean is_async) ∷ (codes "payload", payload_json payload) ∷ [])

abbrev pub builtin_json : Builtin → Json
builtin_json error_context_drop = plain_kind (codes "error-context-drop")
builtin_json backpressure_inc = plain_kind (codes "backpressure-inc")
builtin_json backpressure_dec = plain_kind (codes "backpressure-dec")
builtin_json waitable_set_new = plain_kind (codes "waitable-set-new")
builtin_json (waitable_set_wait ty) = val_type_kind (codes "waitable-set-wait") ty
builtin_json (waitable_set_poll ty) = val_type_kind (codes "waitable-set-poll") ty
builtin_json waitable_set_drop = plain_kind (codes "waitable-set-drop")
builtin_json waitable_join = plain_kind (codes "waitable-join")
builtin_json subtask_drop = plain_kind (codes "subtask-drop")
builtin_json (subtask_cancel is_async) = object_of_kind (codes "subtask-cancel") ((codes "async", boolean is_async) ∷ [])
builtin_json (error_context_new encoding) = encoding_kind (codes "error-context-new") encoding
builtin_json (error_context_debug_message encoding) = encoding_kind (codes "error-context-debug-message") encoding
builtin_json (context_get ty slot) = slot_json (codes "context-get") ty slot
builtin_json (context_set ty slot) = slot_json (codes "context-set") ty slot
builtin_json thread_index = plain_kind (codes "thread-index")
builtin_json thread_new_indirect = plain_kind (codes "thread-new-indirect")
builtin_json thread_resume_later = plain_kind (codes "thread-resume-later")
builtin_json thread_suspend = plain_kind (codes "thread-suspend")
builtin_json thread_yield = plain_kind (codes "thread-yield")
builtin_json thread_suspend_then_resume = plain_kind (codes "thread-suspend-then-resume")
builtin_json thread_yield_then_resume = plain_kind (codes "thread-yield-then-resume")
builtin_json thread_suspend_then_promote = plain_kind (codes "thread-suspend-then-promote")
builtin_json thread_yield_then_promote = plain_kind (codes "thread-yield-then-promote")

abbrev pub import_json : ImportView → Json
import_json (world_func key name abi) = world_function_json key name abi
import_json (interface_func key id name abi) = interface_function_json key id name abi
import_json (imported_resource_drop key interface id) = imported_drop_json key interface id
import_json (exported_resource_drop key id) = key_and_type_json (codes "exported-resource-drop") key id
import_json (exported_resource_new key id) = key_and_type_json (codes "exported-resource-new") key id
import_json (exported_resource_rep key id) = key_and_type_json (codes "exported-resource-rep") key id
import_json (adapter_export adapter function ty) =
    object_of_kind (codes "adapter-export") ((codes "adapter", string adapter) ∷ (codes "func", string function) ∷ (codes "type", func_type_json ty) ∷ [])
import_json (main_module_memory ty) = object_of_kind (codes "main-module-memory") ((codes "type", memory_type_json ty) ∷ [])
import_json (main_module_export name kind) = object_of_kind (codes "main-module-export") (name_field name ∷ (codes "export_kind", export_kind_json kind) ∷ [])
import_json (library_item item) = object_of_kind (codes "item") ((codes "item", library_item_json item) ∷ [])
import_json (exported_task_return key interface function) = task_return_json key interface function.name
import_json exported_task_cancel = plain_kind (codes "exported-task-cancel")
import_json (tls_base_get ty) = val_type_kind (codes "tls-base-get") ty
import_json (tls_base_set ty) = val_type_kind (codes "tls-base-set") ty
import_json wait_import = plain_kind (codes "waitable-set-wait")
import_json poll_import = plain_kind (codes "waitable-set-poll")
import_json (builtin b) = builtin_json b
import_json (async_value value operation is_async payload) = async_value_json (async_value_kind value operation) is_async payload
