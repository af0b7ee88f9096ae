-- What functions that try one kind of names after another answer.
use Rattle.std.proofs.Common.{◌≡◌, ◌∷◌, ◌++◌, [], List, Option, Result, Ok, Err, IsErrAnd, inl, inr, refl, sym, subst}
use Rattle.wc_read.specs.Types.{FuncTypeValue}
use Rattle.wc_names.specs.declared.imports.Import.{Import}
use Rattle.wc_names.specs.First.{FirstOf}
use Rattle.wc_names.specs.Meanings.{Meaning}
use Rattle.wc_validate.proofs.ClassificationLemmas.{classified_as, classified_err, classified_memory, group_err}
use Rattle.wc_validate.specs.declared.name_fault.NameFault.{NameFault}
use Rattle.wc_validate.specs.declared.name_fault.NameFault.TheVariants.{Memory}
use Rattle.wc_validate.specs.Fault.{fault_kind}
use Rattle.wc_validate.specs.Imports.Classify.{answer_of}
use Rattle.wc_validate.specs.Classifications.{IsImportClassification, of_imports}

-- a fault that is passed on
pub passed_on : (M : Meaning → Type 0) (ty : FuncTypeValue) (r : Result (Option Import) NameFault) (f : NameFault) → IsErrAnd r (λ e. e ≡ f)
    → IsImportClassification fault_kind M ty (Err f) → IsImportClassification fault_kind M ty r
passed_on M ty (Ok x) f h v = absurd h
passed_on M ty (Err e) f h v = subst (λ z. IsImportClassification fault_kind M ty (Err z)) (sym h) v

-- a fault of a part that always answers an import
pub still_err : (r : Result Import NameFault) (f : NameFault) → IsErrAnd r (λ e. e ≡ f) → IsErrAnd (answer_of r) (λ e. e ≡ f)
still_err (Ok x) f h = h
still_err (Err e) f h = h

-- an allocation failed
pub failed : (M : Meaning → Type 0) (ty : FuncTypeValue) (r : Result (Option Import) NameFault) → IsErrAnd r (λ e. e ≡ Memory)
    → IsImportClassification fault_kind M ty r
failed M ty r h = passed_on M ty r Memory h (classified_memory of_imports fault_kind M ty Memory refl)

-- a fault of the first kind
pub stage_err : {K : Type 0} (H : K → Meaning → Type 0) (k : K) (ks : List K) (ty : FuncTypeValue) (r : Result (Option Import) NameFault)
    (f : NameFault) → IsErrAnd r (λ e. e ≡ f)
    → IsImportClassification fault_kind (H k) ty (Err f) → IsImportClassification fault_kind (FirstOf H (k ∷ ks)) ty r
stage_err H k ks ty r f h v = passed_on (FirstOf H (k ∷ ks)) ty r f h (classified_err of_imports fault_kind H k ks ty f v)

-- a fault of the first group
pub stages_err : {K : Type 0} (H : K → Meaning → Type 0) (xs ys : List K) (ty : FuncTypeValue) (r : Result (Option Import) NameFault) (f : NameFault)
    → IsErrAnd r (λ e. e ≡ f)
    → IsImportClassification fault_kind (FirstOf H xs) ty (Err f) → IsImportClassification fault_kind (FirstOf H (xs ++ ys)) ty r
stages_err H xs ys ty r f h v = passed_on (FirstOf H (xs ++ ys)) ty r f h (group_err of_imports fault_kind H xs ys ty f v)

-- one kind alone
pub one_stage : {K : Type 0} (H : K → Meaning → Type 0) (k : K) (ty : FuncTypeValue) (r : Result (Option Import) NameFault)
    → IsImportClassification fault_kind (H k) ty r → IsImportClassification fault_kind (FirstOf H (k ∷ [])) ty r
one_stage H k ty r v = classified_as of_imports fault_kind (H k) (FirstOf H (k ∷ [])) ty r (λ m h. inl h) (λ m h. only m h) v where
  only : (m : Meaning) → FirstOf H (k ∷ []) m → H k m
  only m (inl h) = h
  only m (inr h) = absurd h.1
