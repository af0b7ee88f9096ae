-- Built-ins of the functions, resources, futures and streams of a world or an interface (component model, "Canonical
-- built-ins").
use Rattle.std.specs.Prelude.{◌≡◌, ℕ, List, [], ◌∷◌, Bool, true, false, Option, Some, None}
use Rattle.wc_read.specs.declared.types.ValType.TheVariants.{I32}
use Rattle.wc_read.specs.Types.{FuncTypeValue}
use Rattle.wc_resolve.specs.Views.{FunctionView, KeyView, WorldView}
use Rattle.wc_resolve.specs.Kinds.{ResolveView}
use Rattle.wc_names.specs.AsyncValues.{NamesAsyncValue, operation_row}
use Rattle.wc_names.specs.Builtins.{signature}
use Rattle.wc_names.specs.Keys.{Scope, scope_key, resource_named, function_named}
use Rattle.wc_names.specs.Meanings.{Meaning, means, refuses, no_such_export}
use Rattle.wc_names.specs.Mangling.{Scheme, ResourceOperation, resource_drop, resource_new, resource_rep, NamesResource, NamesTaskReturn, NamesTaskCancel}
use Rattle.wc_names.specs.declared.async_values.AsyncValue.{AsyncValue}
use Rattle.wc_names.specs.declared.async_values.Operation.{Operation}
use Rattle.wc_names.specs.Views.{PayloadView, ImportView, imported_resource_drop, exported_resource_drop, exported_resource_new, exported_resource_rep, exported_task_return, exported_task_cancel, async_value}

-- an import for a resource: by the key, the interface and the resource's index; and its signature
pub record ResourceRow : Type 0 where
  pub meaning : KeyView → Option ℕ → ℕ → ImportView
  pub ty : FuncTypeValue

abbrev pub resource_row : Bool → ResourceOperation → ResourceRow
resource_row true op = record { meaning = imported_resource_drop; ty = signature (I32 ∷ []) [] }
resource_row false resource_drop = record { meaning = λ key i t. exported_resource_drop key t; ty = signature (I32 ∷ []) [] }
resource_row false resource_new = record { meaning = λ key i t. exported_resource_new key t; ty = signature (I32 ∷ []) (I32 ∷ []) }
resource_row false resource_rep = record { meaning = λ key i t. exported_resource_rep key t; ty = signature (I32 ∷ []) (I32 ∷ []) }

-- the kinds of names; `no_task_return` is a name of a function that isn't exported
pub data WitIntrinsic : Type 0 where
  of_resource : ResourceOperation → WitIntrinsic
  task_return : WitIntrinsic
  no_task_return : WitIntrinsic
  task_cancel : WitIntrinsic
  of_async_value : WitIntrinsic

-- the kinds for what is imported, and for what is exported, in order
abbrev pub wit_intrinsics : Bool → List WitIntrinsic
wit_intrinsics true = of_resource resource_drop ∷ of_async_value ∷ []
wit_intrinsics false =
    of_resource resource_drop ∷ of_resource resource_new ∷ of_resource resource_rep ∷ task_return ∷ no_task_return ∷ task_cancel ∷ of_async_value ∷ []

abbrev pub IsWitIntrinsic : Scheme → ResolveView → WorldView → Bool → Scope → List ℕ → WitIntrinsic → Meaning → Type 0
IsWitIntrinsic s r w imported scope name (of_resource op) m =
    (resource : List ℕ) × (t : ℕ) × NamesResource s op resource name × (resource_named r w scope resource ≡ Some t)
    × (m ≡ means ((resource_row imported op).meaning (scope_key scope resource) scope.interface t) (Some (resource_row imported op).ty))
IsWitIntrinsic s r w imported scope name task_return m =
    (function : List ℕ) × (f : FunctionView) × NamesTaskReturn s function name × (function_named r w imported scope function ≡ Some f)
    × (m ≡ means (exported_task_return (scope_key scope function) scope.interface f) None)
IsWitIntrinsic s r w imported scope name no_task_return m =
    (function : List ℕ) × NamesTaskReturn s function name × (function_named r w imported scope function ≡ None) × (m ≡ refuses no_such_export)
IsWitIntrinsic s r w imported scope name task_cancel m = NamesTaskCancel s name × (m ≡ means exported_task_cancel (Some (signature [] [])))
IsWitIntrinsic s r w imported scope name of_async_value m =
    (v : AsyncValue) × (op : Operation) × (is_async : Bool) × (info : PayloadView) × NamesAsyncValue s r w imported scope v op is_async info name
    × (m ≡ means (async_value v op is_async info) (Some (operation_row v op).ty))
