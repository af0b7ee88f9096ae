-- Built-ins of no interface: where none of the first group is named, the classification of the others is that on all.
use Rattle.std.proofs.Common.{◌≡◌, ◌↔◌, ℕ, Bool, true, false, not, List, Option, Some, Result, Ok, Err, IsErrAnd, IsTrue, sym, refl, ap, subst, ◌∙◌}
use Rattle.std.specs.Option.{IfSome}
use Rattle.std.specs.Str.{bytes_eq}
use Rattle.std.proofs.lemmas.Slice.Eq.{bytes_eq-Decides}
use Rattle.wc_adapters.specs.declared.encoding.StringEncoding.{StringEncoding}
use Rattle.wc_read.specs.declared.types.ValType.{ValType}
use Rattle.wc_read.specs.declared.types.FuncType.{FuncType}
use Rattle.wc_read.specs.Types.{FuncTypeValue, func_type_value}
use Rattle.wc_names.specs.declared.imports.Import.{Import}
use Rattle.wc_names.specs.Builtins.{NamesBuiltin, IsThreadBuiltin, builtin_import, builtin_type}
use Rattle.wc_names.specs.Mangling.{Scheme}
use Rattle.wc_validate.specs.Classifications.{FaultKind, IsImportClassification, of_imports}
use Rattle.wc_names.specs.Views.{Builtin, error_context_drop, backpressure_inc, backpressure_dec, waitable_set_new, waitable_set_wait, waitable_set_poll, waitable_set_drop, waitable_join, subtask_drop, subtask_cancel, error_context_new, error_context_debug_message, context_get, context_set, thread_index, thread_new_indirect, thread_resume_later, thread_suspend, thread_yield, thread_suspend_then_resume, thread_yield_then_resume, thread_suspend_then_promote, thread_yield_then_promote}
use Rattle.wc_validate.specs.Private.Imports.Builtins.{IsCheckedAs, IsMismatch, IsTypeMismatch, IsAnyBuiltin, IsLaterBuiltin, MeansBuiltin, thread_type}
use Rattle.wc_validate.specs.Fault.{fault_kind}
use Rattle.wc_validate.specs.declared.name_fault.NameFault.{NameFault}
use Rattle.wc_validate.specs.declared.name_fault.NameFault.TheVariants.{Memory}
use Rattle.wc_validate.proofs.ClassificationLemmas.{classified_as, type_failed, type_mismatch}
use Rattle.wc_validate.proofs.SignatureLemmas.{same_some, same_type}

pub not_so : (b : Bool) (P : Type 0) → IsTrue b ↔ P → b ≡ false → ¬ P
not_so b P h f p = let t : true ≡ false = sym (h.1 p) ∙ f in let bad : ⊥ = cc t in bad

-- a value whose type is the one that it has to have
pub checked_kept : {V : Type 0} (type_of : V → Option FuncTypeValue) (i : V) (ty : FuncType) (b : Bool)
    → IsTrue b ↔ (type_of i ≡ Some (func_type_value ty)) → b ≡ true → IsCheckedAs type_of i ty (Ok (Some i))
checked_kept type_of i ty b law kept = λ required_type is. (refl, same_type (sym (law.0 kept) ∙ is))

-- a value whose type is another
pub checked_mismatch : {V : Type 0} (type_of : V → Option FuncTypeValue) (i : V) (ty : FuncType) (b : Bool) (f : NameFault)
    → IsTrue b ↔ (type_of i ≡ Some (func_type_value ty)) → b ≡ false → IsTypeMismatch (type_of i) f → IsCheckedAs type_of i ty (Err f)
checked_mismatch type_of i ty b f law differs h = λ required_type is.
    type_mismatch (fault_kind f) (func_type_value ty) required_type (subst (λ o. IfSome o (λ wanted. IsMismatch wanted f)) is h)
    (λ e. not_so b _ law differs (is ∙ same_some (sym e)))

-- an allocation failed where a value's type was compared
pub checked_failed : {V : Type 0} (type_of : V → Option FuncTypeValue) (i : V) (ty : FuncType) (r : Result (Option V) NameFault)
    → IsErrAnd r (λ e. e ≡ Memory) → IsCheckedAs type_of i ty r
checked_failed type_of i ty r h = λ required_type is. type_failed fault_kind r i (func_type_value ty) required_type Memory h refl

-- the signature of a built-in for threads
pub thread_signature : (b : Builtin) → IsThreadBuiltin b → thread_type (builtin_import b) ≡ Some (builtin_type b)
thread_signature thread_index h = refl
thread_signature thread_new_indirect h = refl
thread_signature thread_resume_later h = refl
thread_signature thread_suspend h = refl
thread_signature thread_yield h = refl
thread_signature thread_suspend_then_resume h = refl
thread_signature thread_yield_then_resume h = refl
thread_signature thread_suspend_then_promote h = refl
thread_signature thread_yield_then_promote h = refl
thread_signature b h = absurd h

thread_is_later : (b : Builtin) → IsThreadBuiltin b → IsLaterBuiltin b
thread_is_later thread_index h = tt
thread_is_later thread_new_indirect h = tt
thread_is_later thread_resume_later h = tt
thread_is_later thread_suspend h = tt
thread_is_later thread_yield h = tt
thread_is_later thread_suspend_then_resume h = tt
thread_is_later thread_yield_then_resume h = tt
thread_is_later thread_suspend_then_promote h = tt
thread_is_later thread_yield_then_promote h = tt
thread_is_later b h = absurd h

module _ {F : Type 0} (kind : F → FaultKind) (s : Scheme) (name : List ℕ) (ty : FuncTypeValue) (r : Result (Option Import) F) where
  pub later_of_threads : ((e : StringEncoding) → ¬ NamesBuiltin s (error_context_new e) name)
      → ((e : StringEncoding) → ¬ NamesBuiltin s (error_context_debug_message e) name)
      → ((x : ValType × ℕ) → ¬ NamesBuiltin s (context_get x.0 x.1) name) → ((x : ValType × ℕ) → ¬ NamesBuiltin s (context_set x.0 x.1) name)
      → IsImportClassification kind (MeansBuiltin IsThreadBuiltin s name) ty r → IsImportClassification kind (MeansBuiltin IsLaterBuiltin s name) ty r
  later_of_threads a b c d v =
      classified_as of_imports kind _ _ ty r (λ m h. (h.0, thread_is_later h.0 h.1, h.2, h.3)) (λ m h. (h.0, at h.0 h.1 h.2, h.2, h.3)) v where
        at : (k : Builtin) → IsLaterBuiltin k → NamesBuiltin s k name → IsThreadBuiltin k
        at (error_context_new e) l n = absurd (a e n)
        at (error_context_debug_message e) l n = absurd (b e n)
        at (context_get t k) l n = absurd (c (t, k) n)
        at (context_set t k) l n = absurd (d (t, k) n)
        at k l n = l

  pub any_of_later : ¬ NamesBuiltin s error_context_drop name → ¬ NamesBuiltin s backpressure_inc name → ¬ NamesBuiltin s backpressure_dec name
      → ¬ NamesBuiltin s waitable_set_new name
      → ¬ NamesBuiltin s waitable_set_drop name → ¬ NamesBuiltin s waitable_join name → ¬ NamesBuiltin s subtask_drop name
      → ((t : ValType) → ¬ NamesBuiltin s (waitable_set_wait t) name) → ((t : ValType) → ¬ NamesBuiltin s (waitable_set_poll t) name)
      → ((a : Bool) → ¬ NamesBuiltin s (subtask_cancel a) name)
      → IsImportClassification kind (MeansBuiltin IsLaterBuiltin s name) ty r → IsImportClassification kind (MeansBuiltin IsAnyBuiltin s name) ty r
  any_of_later a b c d e f g w p x v = classified_as of_imports kind _ _ ty r (λ m h. (h.0, tt, h.2, h.3)) (λ m h. (h.0, at h.0 h.2, h.2, h.3)) v where
    at : (k : Builtin) → NamesBuiltin s k name → IsLaterBuiltin k
    at error_context_drop n = absurd (a n)
    at backpressure_inc n = absurd (b n)
    at backpressure_dec n = absurd (c n)
    at waitable_set_new n = absurd (d n)
    at waitable_set_drop n = absurd (e n)
    at waitable_join n = absurd (f n)
    at subtask_drop n = absurd (g n)
    at (waitable_set_wait t) n = absurd (w t n)
    at (waitable_set_poll t) n = absurd (p t n)
    at (subtask_cancel y) n = absurd (x y n)
    at k n = tt

pub not_equal : (a b : List ℕ) → bytes_eq a b ≡ false → ¬ (a ≡ b)
not_equal a b differ same = let t : true ≡ false = sym ((bytes_eq-Decides a b).1 same) ∙ differ in let bad : ⊥ = cc t in bad

pub unequal : (a b : List ℕ) → not (bytes_eq a b) ≡ true → ¬ (a ≡ b)
unequal a b differ same = let t : not true ≡ true = ap not (sym ((bytes_eq-Decides a b).1 same)) ∙ differ in let bad : ⊥ = cc t in bad

pub equal : (a b : List ℕ) → not (bytes_eq a b) ≡ false → a ≡ b
equal a b same = (bytes_eq-Decides a b).0 (at (bytes_eq a b) same) where
  at : (x : Bool) → not x ≡ false → x ≡ true
  at true e = refl
  at false e = absurd (let bad : ⊥ = cc e in bad)
