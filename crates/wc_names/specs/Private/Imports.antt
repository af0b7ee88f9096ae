-- Kinds of imports, by what they own.
use Rattle.std.specs.Option.{IsSome}
use Rattle.wc_names.specs.declared.async_values.AsyncValue.TheVariants.{Future, Stream}
use Rattle.wc_names.specs.Builtins.{IsThreadBuiltin}
use Rattle.wc_names.specs.Views.{Builtin, waitable_set_wait, waitable_set_poll, subtask_cancel, error_context_new, error_context_debug_message, context_get, context_set, ImportView, imported_resource_drop, exported_resource_drop, exported_resource_new, exported_resource_rep, adapter_export, main_module_memory, main_module_export, library_item, exported_task_return, exported_task_cancel, tls_base_get, tls_base_set, wait_import, poll_import, builtin, async_value, function_import}

-- a function of the world, or of an interface that it imports
abbrev pub IsFunctionImport : ImportView → Type 0
IsFunctionImport i = IsSome (function_import i)

-- an item of another module or of a library, or the function that an exported one returns by
abbrev pub IsItemImport : ImportView → Type 0
IsItemImport (adapter_export adapter name ty) = Unit {0}
IsItemImport (main_module_export name kind) = Unit {0}
IsItemImport (library_item item) = Unit {0}
IsItemImport (exported_task_return key interface f) = Unit {0}
IsItemImport i = ⊥

-- a built-in of a resource
abbrev pub IsResourceImport : ImportView → Type 0
IsResourceImport (imported_resource_drop key interface t) = Unit {0}
IsResourceImport (exported_resource_drop key t) = Unit {0}
IsResourceImport (exported_resource_new key t) = Unit {0}
IsResourceImport (exported_resource_rep key t) = Unit {0}
IsResourceImport i = ⊥

-- a built-in of a stream
abbrev pub IsStreamImport : ImportView → Type 0
IsStreamImport (async_value Stream operation is_async payload) = Unit {0}
IsStreamImport i = ⊥

-- a built-in of a future
abbrev pub IsFutureImport : ImportView → Type 0
IsFutureImport (async_value Future operation is_async payload) = Unit {0}
IsFutureImport i = ⊥

-- an import without a key, a text, or a type that takes memory
abbrev pub OwnsNothing : ImportView → Type 0
OwnsNothing (main_module_memory ty) = Unit {0}
OwnsNothing exported_task_cancel = Unit {0}
OwnsNothing (tls_base_get ty) = Unit {0}
OwnsNothing (tls_base_set ty) = Unit {0}
OwnsNothing wait_import = Unit {0}
OwnsNothing poll_import = Unit {0}
OwnsNothing (builtin b) = Unit {0}
OwnsNothing i = ⊥

-- a built-in without parameters
abbrev pub IsPlainBuiltin : Builtin → Type 0
IsPlainBuiltin (waitable_set_wait ty) = ⊥
IsPlainBuiltin (waitable_set_poll ty) = ⊥
IsPlainBuiltin (subtask_cancel is_async) = ⊥
IsPlainBuiltin (error_context_new encoding) = ⊥
IsPlainBuiltin (error_context_debug_message encoding) = ⊥
IsPlainBuiltin (context_get ty slot) = ⊥
IsPlainBuiltin (context_set ty slot) = ⊥
IsPlainBuiltin b = Unit {0}

abbrev pub IsPlainImport : ImportView → Type 0
IsPlainImport exported_task_cancel = Unit {0}
IsPlainImport wait_import = Unit {0}
IsPlainImport poll_import = Unit {0}
IsPlainImport (builtin b) = IsPlainBuiltin b
IsPlainImport i = ⊥

-- a built-in of threads
abbrev pub IsThreadImport : ImportView → Type 0
IsThreadImport (builtin b) = IsThreadBuiltin b
IsThreadImport i = ⊥
