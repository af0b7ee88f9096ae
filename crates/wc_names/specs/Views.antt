-- What contracts see of imports: texts as their bytes, ids as indices.
use Rattle.std.specs.Prelude.{ℕ, List, Bool, false, Option, Some, None, string_bytes}
use Rattle.std.specs.Borrow.{Bor}
use Rattle.std.specs.Option.{option_map}
use Rattle.wc_read.specs.declared.types.ValType.{ValType}
use Rattle.wc_read.specs.declared.types.MemoryType.{MemoryType}
use Rattle.wc_read.specs.declared.exports.ExportKind.{ExportKind}
use Rattle.wc_read.specs.Types.{FuncTypeValue, func_type_value}
use Rattle.wc_resolve.specs.declared.functions.AbiVariant.{AbiVariant}
use Rattle.wc_resolve.specs.declared.ids.InterfaceId.{InterfaceId}
use Rattle.wc_resolve.specs.declared.worlds.WorldKey.{WorldKey}
use Rattle.wc_resolve.specs.Dependencies.{id_of_interface}
use Rattle.wc_resolve.specs.Views.{KeyView, key_view, FunctionView, function_view}
use Rattle.wc_adapters.specs.declared.encoding.StringEncoding.{StringEncoding}
use Rattle.wc_adapters.specs.Adapters.{LibraryItemView, library_item_view}
use Rattle.wc_names.specs.declared.imports.PayloadType.{PayloadType}
use Rattle.wc_names.specs.declared.imports.PayloadType.TheVariants.{Typed, UnitFuture, UnitStream}
use Rattle.wc_names.specs.declared.imports.PayloadInfo.{PayloadInfo}
use Rattle.wc_names.specs.declared.async_values.AsyncValue.{AsyncValue}
use Rattle.wc_names.specs.declared.async_values.AsyncValue.TheVariants as value
use Rattle.wc_names.specs.declared.async_values.Operation.{Operation}
use Rattle.wc_names.specs.declared.async_values.Operation.TheVariants as operation
use Rattle.wc_names.specs.declared.imports.Import.{Import}
use Rattle.wc_names.specs.declared.imports.Import.TheVariants as imports
use Rattle.wc_names.specs.declared.imports.FunctionImport.{FunctionImport}

-- the index of a future or stream type, and the name of a function that has it as a parameter or result; or a future or
-- a stream without a payload
pub data PayloadTypeView : Type 0 where
  typed : ℕ → List ℕ → PayloadTypeView
  unit_future : PayloadTypeView
  unit_stream : PayloadTypeView

abbrev pub payload_type_view : PayloadType → PayloadTypeView
payload_type_view (Typed id function) = typed id.0 (string_bytes function)
payload_type_view UnitFuture = unit_future
payload_type_view UnitStream = unit_stream

pub record PayloadView : Type 0 where
  pub name : List ℕ
  pub ty : PayloadTypeView
  pub key : KeyView
  pub interface : Option ℕ
  pub imported : Bool

abbrev pub payload_view : PayloadInfo → PayloadView
payload_view p = record {
  name = string_bytes p.name;
  ty = payload_type_view p.ty;
  key = key_view p.key;
  interface = option_map id_of_interface p.interface;
  imported = p.imported;
}

-- canonical built-ins of no interface; waiting and polling by the type of the pointer to the event
pub data Builtin : Type 0 where
  error_context_drop : Builtin
  backpressure_inc : Builtin
  backpressure_dec : Builtin
  waitable_set_new : Builtin
  waitable_set_wait : ValType → Builtin
  waitable_set_poll : ValType → Builtin
  waitable_set_drop : Builtin
  waitable_join : Builtin
  subtask_drop : Builtin
  subtask_cancel : Bool → Builtin
  error_context_new : StringEncoding → Builtin
  error_context_debug_message : StringEncoding → Builtin
  context_get : ValType → ℕ → Builtin
  context_set : ValType → ℕ → Builtin
  thread_index : Builtin
  thread_new_indirect : Builtin
  thread_resume_later : Builtin
  thread_suspend : Builtin
  thread_yield : Builtin
  thread_suspend_then_resume : Builtin
  thread_yield_then_resume : Builtin
  thread_suspend_then_promote : Builtin
  thread_yield_then_promote : Builtin

-- what is imported; waiting and polling whatever the type of the pointer is
pub data ImportView : Type 0 where
  world_func : KeyView → List ℕ → AbiVariant → ImportView
  interface_func : KeyView → ℕ → List ℕ → AbiVariant → ImportView
  imported_resource_drop : KeyView → Option ℕ → ℕ → ImportView
  exported_resource_drop : KeyView → ℕ → ImportView
  exported_resource_new : KeyView → ℕ → ImportView
  exported_resource_rep : KeyView → ℕ → ImportView
  adapter_export : List ℕ → List ℕ → FuncTypeValue → ImportView
  main_module_memory : MemoryType → ImportView
  main_module_export : List ℕ → ExportKind → ImportView
  library_item : LibraryItemView → ImportView
  exported_task_return : KeyView → Option ℕ → FunctionView → ImportView
  exported_task_cancel : ImportView
  tls_base_get : ValType → ImportView
  tls_base_set : ValType → ImportView
  wait_import : ImportView
  poll_import : ImportView
  builtin : Builtin → ImportView
  async_value : AsyncValue → Operation → Bool → PayloadView → ImportView

abbrev pub import_view : Import → ImportView
import_view (imports.WorldFunc key name abi) = world_func (key_view key) (string_bytes name) abi
import_view (imports.InterfaceFunc key id name abi) = interface_func (key_view key) id.0 (string_bytes name) abi
import_view (imports.ImportedResourceDrop key interface id) = imported_resource_drop (key_view key) (option_map id_of_interface interface) id.0
import_view (imports.ExportedResourceDrop key id) = exported_resource_drop (key_view key) id.0
import_view (imports.ExportedResourceNew key id) = exported_resource_new (key_view key) id.0
import_view (imports.ExportedResourceRep key id) = exported_resource_rep (key_view key) id.0
import_view (imports.AdapterExport adapter func ty) = adapter_export (string_bytes adapter) (string_bytes func) (func_type_value ty)
import_view (imports.MainModuleMemory ty) = main_module_memory ty
import_view (imports.MainModuleExport name kind) = main_module_export (string_bytes name) kind
import_view (imports.Item item) = library_item (library_item_view item)
import_view (imports.ExportedTaskReturn key interface function) =
    exported_task_return (key_view key) (option_map id_of_interface interface) (function_view function)
import_view imports.ExportedTaskCancel = exported_task_cancel
import_view (imports.ContextGet ty slot) = builtin (context_get ty slot)
import_view (imports.ContextSet ty slot) = builtin (context_set ty slot)
import_view (imports.TlsBaseGet ty) = tls_base_get ty
import_view (imports.TlsBaseSet ty) = tls_base_set ty
import_view (imports.ErrorContextNew encoding) = builtin (error_context_new encoding)
import_view (imports.ErrorContextDebugMessage encoding) = builtin (error_context_debug_message encoding)
import_view imports.ErrorContextDrop = builtin error_context_drop
import_view imports.BackpressureInc = builtin backpressure_inc
import_view imports.BackpressureDec = builtin backpressure_dec
import_view imports.WaitableSetNew = builtin waitable_set_new
import_view imports.WaitableSetWait = wait_import
import_view imports.WaitableSetPoll = poll_import
import_view imports.WaitableSetDrop = builtin waitable_set_drop
import_view imports.WaitableJoin = builtin waitable_join
import_view imports.SubtaskDrop = builtin subtask_drop
import_view (imports.SubtaskCancel is_async) = builtin (subtask_cancel is_async)
import_view imports.ThreadIndex = builtin thread_index
import_view imports.ThreadNewIndirect = builtin thread_new_indirect
import_view imports.ThreadResumeLater = builtin thread_resume_later
import_view imports.ThreadSuspend = builtin thread_suspend
import_view imports.ThreadYield = builtin thread_yield
import_view imports.ThreadSuspendThenResume = builtin thread_suspend_then_resume
import_view imports.ThreadYieldThenResume = builtin thread_yield_then_resume
import_view imports.ThreadSuspendThenPromote = builtin thread_suspend_then_promote
import_view imports.ThreadYieldThenPromote = builtin thread_yield_then_promote
import_view (imports.StreamNew info) = async_value value.Stream operation.New false (payload_view info)
import_view (imports.StreamRead is_async info) = async_value value.Stream operation.Read is_async (payload_view info)
import_view (imports.StreamWrite is_async info) = async_value value.Stream operation.Write is_async (payload_view info)
import_view (imports.StreamForward info) = async_value value.Stream operation.Forward false (payload_view info)
import_view (imports.StreamCancelRead info is_async) = async_value value.Stream operation.CancelRead is_async (payload_view info)
import_view (imports.StreamCancelWrite info is_async) = async_value value.Stream operation.CancelWrite is_async (payload_view info)
import_view (imports.StreamDropReadable info) = async_value value.Stream operation.DropReadable false (payload_view info)
import_view (imports.StreamDropWritable info) = async_value value.Stream operation.DropWritable false (payload_view info)
import_view (imports.FutureNew info) = async_value value.Future operation.New false (payload_view info)
import_view (imports.FutureRead is_async info) = async_value value.Future operation.Read is_async (payload_view info)
import_view (imports.FutureWrite is_async info) = async_value value.Future operation.Write is_async (payload_view info)
import_view (imports.FutureForward info) = async_value value.Future operation.Forward false (payload_view info)
import_view (imports.FutureCancelRead info is_async) = async_value value.Future operation.CancelRead is_async (payload_view info)
import_view (imports.FutureCancelWrite info is_async) = async_value value.Future operation.CancelWrite is_async (payload_view info)
import_view (imports.FutureDropReadable info) = async_value value.Future operation.DropReadable false (payload_view info)
import_view (imports.FutureDropWritable info) = async_value value.Future operation.DropWritable false (payload_view info)

-- a function that a world imports: the key and the id of its interface, if it is of one; its name, and how it is lowered
pub record FunctionImportView : Type 0 where
  pub interface : Option (KeyView × ℕ)
  pub name : List ℕ
  pub abi : AbiVariant

-- an interface and its key
abbrev pub keyed_view : Bor WorldKey × InterfaceId → KeyView × ℕ
keyed_view i = (key_view i.0.now, i.1.0)

abbrev pub function_import_view : FunctionImport → FunctionImportView
function_import_view f = record { interface = option_map keyed_view f.interface; name = f.name.now; abi = f.abi }

-- the function that an import is, if it is one
abbrev pub function_import : ImportView → Option FunctionImportView
function_import (world_func key name abi) = Some (record { interface = None; name = name; abi = abi })
function_import (interface_func key i name abi) = Some (record { interface = Some (key, i); name = name; abi = abi })
function_import i = None
