-- Built-ins of no interface, tried in three groups; and the signatures that imports of built-ins fix.
use Rattle.std.specs.Prelude.{◌≡◌, ℕ, List, Option, Some, None, Result}
use Rattle.std.specs.Option.{IfSome}
use Rattle.wc_read.specs.Types.{FuncTypeValue, func_type_value}
use Rattle.wc_names.specs.AsyncValues.{operation_row}
use Rattle.wc_names.specs.Builtins.{NamesBuiltin, IsThreadBuiltin, builtin_import, builtin_type}
use Rattle.wc_names.specs.Meanings.{Meaning, means}
use Rattle.wc_names.specs.Mangling.{Scheme}
use Rattle.wc_names.specs.Views.{Builtin, error_context_new, error_context_debug_message, context_get, context_set, thread_index, thread_new_indirect, thread_resume_later, thread_suspend, thread_yield, thread_suspend_then_resume, thread_yield_then_resume, thread_suspend_then_promote, thread_yield_then_promote, ImportView, builtin, async_value, import_view}
use Rattle.wc_read.specs.declared.types.FuncType.{FuncType}
use Rattle.wc_names.specs.declared.imports.Import.{Import}
use Rattle.wc_validate.specs.Classifications.{IsTypeChecked, wrong_signature}
use Rattle.wc_validate.specs.declared.name_fault.NameFault.{NameFault}
use Rattle.wc_validate.specs.Fault.{fault_kind}

-- the name is one of some built-ins
abbrev pub MeansBuiltin : (Builtin → Type 0) → Scheme → List ℕ → Meaning → Type 0
MeansBuiltin IsAmong s name m = (b : Builtin) × IsAmong b × NamesBuiltin s b name × (m ≡ means (builtin_import b) (Some (builtin_type b)))

abbrev pub IsAnyBuiltin : Builtin → Type 0
IsAnyBuiltin b = Unit {0}

-- the built-ins that are tried after those of fixed names: of an encoding, of a slot, and of threads
abbrev pub IsLaterBuiltin : Builtin → Type 0
IsLaterBuiltin (error_context_new e) = Unit {0}
IsLaterBuiltin (error_context_debug_message e) = Unit {0}
IsLaterBuiltin (context_get t n) = Unit {0}
IsLaterBuiltin (context_set t n) = Unit {0}
IsLaterBuiltin b = IsThreadBuiltin b

-- the signature of an import that is a built-in for threads
abbrev pub thread_type : ImportView → Option FuncTypeValue
thread_type (builtin thread_index) = Some (builtin_type thread_index)
thread_type (builtin thread_new_indirect) = Some (builtin_type thread_new_indirect)
thread_type (builtin thread_resume_later) = Some (builtin_type thread_resume_later)
thread_type (builtin thread_suspend) = Some (builtin_type thread_suspend)
thread_type (builtin thread_yield) = Some (builtin_type thread_yield)
thread_type (builtin thread_suspend_then_resume) = Some (builtin_type thread_suspend_then_resume)
thread_type (builtin thread_yield_then_resume) = Some (builtin_type thread_yield_then_resume)
thread_type (builtin thread_suspend_then_promote) = Some (builtin_type thread_suspend_then_promote)
thread_type (builtin thread_yield_then_promote) = Some (builtin_type thread_yield_then_promote)
thread_type i = None

-- the signature of an import that is a built-in of a future or stream
abbrev pub async_value_type : ImportView → Option FuncTypeValue
async_value_type (async_value v op is_async info) = Some (operation_row v op).ty
async_value_type i = None

-- a fault says that a type is not this one; and not the one that an import has to have, if it has to have one
abbrev pub IsMismatch : FuncTypeValue → NameFault → Type 0
IsMismatch wanted f = fault_kind f ≡ wrong_signature (Some wanted)

abbrev pub IsTypeMismatch : Option FuncTypeValue → NameFault → Type 0
IsTypeMismatch required f = IfSome required (λ wanted. IsMismatch wanted f)

abbrev pub IsMismatchBy : (ImportView → Option FuncTypeValue) → Import → NameFault → Type 0
IsMismatchBy type_of i f = IsTypeMismatch (type_of (import_view i)) f

-- a value's type was compared with the one that it has to have; and an import's
abbrev pub IsCheckedAs : {V : Type 0} → (V → Option FuncTypeValue) → V → FuncType → Result (Option V) NameFault → Type 0
IsCheckedAs type_of v ty result =
    (required_type : FuncTypeValue) → type_of v ≡ Some required_type → IsTypeChecked fault_kind result v (func_type_value ty) required_type

abbrev pub IsCheckedBy : (ImportView → Option FuncTypeValue) → Import → FuncType → Result (Option Import) NameFault → Type 0
IsCheckedBy type_of i ty result = IsCheckedAs (λ (v : Import). type_of (import_view v)) i ty result
