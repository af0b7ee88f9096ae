-- Canonical built-ins of no interface: their names and their core signatures (component model, "Canonical built-ins").
use Rattle.std.specs.Prelude.{◌≡◌, ℕ, List, [], ◌∷◌, ◌++◌, codes}
use Rattle.wc_read.specs.declared.types.ValType.{ValType}
use Rattle.wc_read.specs.declared.types.ValType.TheVariants.{I32, I64}
use Rattle.wc_read.specs.Types.{FuncTypeValue}
use Rattle.wc_adapters.specs.declared.encoding.StringEncoding.{StringEncoding}
use Rattle.wc_adapters.specs.declared.encoding.StringEncoding.TheVariants.{UTF8, UTF16, CompactUTF16}
use Rattle.wc_names.specs.Texts.{Spelling, exactly, choice, slot, Spells}
use Rattle.wc_names.specs.Mangling.{Scheme, standard, legacy, lowered_name}
use Rattle.wc_names.specs.Views.{Builtin, error_context_drop, backpressure_inc, backpressure_dec, waitable_set_new, waitable_set_wait, waitable_set_poll, waitable_set_drop, waitable_join, subtask_drop, subtask_cancel, error_context_new, error_context_debug_message, context_get, context_set, thread_index, thread_new_indirect, thread_resume_later, thread_suspend, thread_yield, thread_suspend_then_resume, thread_yield_then_resume, thread_suspend_then_promote, thread_yield_then_promote, ImportView, builtin, wait_import, poll_import}

-- the core function type with these parameters and results
abbrev pub signature : List ValType → List ValType → FuncTypeValue
signature params results = record { params = params; results = results }

-- the names of a built-in, and its signature
pub record BuiltinRow : Type 0 where
  pub names : Spelling
  pub ty : FuncTypeValue

abbrev pub row : Spelling → List ValType → List ValType → BuiltinRow
row names params results = record { names = names; ty = signature params results }

abbrev pub name : List ℕ → Spelling
name text = exactly text

-- a pointer's type at the end of a name, where 32 bits may be left out
abbrev pub pointer_suffixes : ValType → List (List ℕ)
pointer_suffixes I32 = [] ∷ codes "-i32" ∷ []
pointer_suffixes I64 = codes "-i64" ∷ []
pointer_suffixes t = []

-- a value's type before a number, where 32 bits may be left out
abbrev pub slot_prefixes : ValType → List (List ℕ)
slot_prefixes I32 = [] ∷ codes "i32-" ∷ []
slot_prefixes I64 = codes "i64-" ∷ []
slot_prefixes t = []

abbrev pub encoding_text : StringEncoding → List ℕ
encoding_text UTF8 = codes "utf8"
encoding_text UTF16 = codes "utf16"
encoding_text CompactUTF16 = codes "latin1+utf16"

-- `[waitable-set-wait]`, `[waitable-set-wait-i32]`, `[waitable-set-wait-i64]`
abbrev pub with_pointer : List ℕ → ValType → Spelling
with_pointer begin t = choice begin (pointer_suffixes t) (codes "]")

-- `[error-context-new-utf8]`
abbrev pub with_encoding : List ℕ → StringEncoding → Spelling
with_encoding begin e = name (begin ++ (encoding_text e ++ codes "]"))

-- `[context-get-1]`, `[context-get-i32-1]`, `[context-get-i64-1]`
abbrev pub with_slot : List ℕ → ValType → ℕ → Spelling
with_slot begin t n = slot begin (slot_prefixes t) n (codes "]")

-- the names and the signature of each built-in by the legacy scheme
abbrev pub legacy_row : Builtin → BuiltinRow
legacy_row error_context_drop = row (name (codes "[error-context-drop]")) (I32 ∷ []) []
legacy_row backpressure_inc = row (name (codes "[backpressure-inc]")) [] []
legacy_row backpressure_dec = row (name (codes "[backpressure-dec]")) [] []
legacy_row waitable_set_new = row (name (codes "[waitable-set-new]")) [] (I32 ∷ [])
legacy_row (waitable_set_wait t) = row (with_pointer (codes "[waitable-set-wait") t) (I32 ∷ t ∷ []) (I32 ∷ [])
legacy_row (waitable_set_poll t) = row (with_pointer (codes "[waitable-set-poll") t) (I32 ∷ t ∷ []) (I32 ∷ [])
legacy_row waitable_set_drop = row (name (codes "[waitable-set-drop]")) (I32 ∷ []) []
legacy_row waitable_join = row (name (codes "[waitable-join]")) (I32 ∷ I32 ∷ []) []
legacy_row subtask_drop = row (name (codes "[subtask-drop]")) (I32 ∷ []) []
legacy_row (subtask_cancel is_async) = row (name (lowered_name is_async (codes "[subtask-cancel]"))) (I32 ∷ []) (I32 ∷ [])
legacy_row (error_context_new e) = row (with_encoding (codes "[error-context-new-") e) (I32 ∷ I32 ∷ []) (I32 ∷ [])
legacy_row (error_context_debug_message e) = row (with_encoding (codes "[error-context-debug-message-") e) (I32 ∷ I32 ∷ []) []
legacy_row (context_get t n) = row (with_slot (codes "[context-get-") t n) [] (t ∷ [])
legacy_row (context_set t n) = row (with_slot (codes "[context-set-") t n) (t ∷ []) []
legacy_row thread_index = row (name (codes "[thread-index]")) [] (I32 ∷ [])
legacy_row thread_new_indirect = row (name (codes "[thread-new-indirect-v0]")) (I32 ∷ I32 ∷ []) (I32 ∷ [])
legacy_row thread_resume_later = row (name (codes "[thread-resume-later]")) (I32 ∷ []) []
legacy_row thread_suspend = row (name (codes "[thread-suspend]")) [] (I32 ∷ [])
legacy_row thread_yield = row (name (codes "[thread-yield]")) [] (I32 ∷ [])
legacy_row thread_suspend_then_resume = row (name (codes "[thread-suspend-then-resume]")) (I32 ∷ []) (I32 ∷ [])
legacy_row thread_yield_then_resume = row (name (codes "[thread-yield-then-resume]")) (I32 ∷ []) (I32 ∷ [])
legacy_row thread_suspend_then_promote = row (name (codes "[thread-suspend-then-promote]")) (I32 ∷ []) (I32 ∷ [])
legacy_row thread_yield_then_promote = row (name (codes "[thread-yield-then-promote]")) (I32 ∷ []) (I32 ∷ [])

-- the standard scheme has no names of built-ins
abbrev pub NamesBuiltin : Scheme → Builtin → List ℕ → Type 0
NamesBuiltin standard b text = ⊥
NamesBuiltin (legacy hook) b text = Spells (legacy_row b).names text

abbrev pub builtin_type : Builtin → FuncTypeValue
builtin_type b = (legacy_row b).ty

-- the import that is recorded: of waiting and polling without the type of the pointer
abbrev pub builtin_import : Builtin → ImportView
builtin_import (waitable_set_wait t) = wait_import
builtin_import (waitable_set_poll t) = poll_import
builtin_import b = builtin b

-- the built-ins of threads
abbrev pub IsThreadBuiltin : Builtin → Type 0
IsThreadBuiltin thread_index = Unit {0}
IsThreadBuiltin thread_new_indirect = Unit {0}
IsThreadBuiltin thread_resume_later = Unit {0}
IsThreadBuiltin thread_suspend = Unit {0}
IsThreadBuiltin thread_yield = Unit {0}
IsThreadBuiltin thread_suspend_then_resume = Unit {0}
IsThreadBuiltin thread_yield_then_resume = Unit {0}
IsThreadBuiltin thread_suspend_then_promote = Unit {0}
IsThreadBuiltin thread_yield_then_promote = Unit {0}
IsThreadBuiltin b = ⊥

-- the import of a built-in of threads by its name
abbrev pub NamesThreadImport : Scheme → List ℕ → ImportView → Type 0
NamesThreadImport s name i = (b : Builtin) × IsThreadBuiltin b × NamesBuiltin s b name × (i ≡ builtin_import b)
