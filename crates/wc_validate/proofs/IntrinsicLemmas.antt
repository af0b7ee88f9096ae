-- Built-ins of resources and tasks: what their names mean, by what is looked up under the names that they hold.
use Rattle.std.proofs.Common.{◌≡◌, ℕ, Bool, true, false, List, [], ◌∷◌, Option, Some, None, Result, inl, inr, refl, sym, ap, subst, ◌∙◌}
use Rattle.wc_read.specs.declared.types.ValType.TheVariants.{I32}
use Rattle.wc_read.specs.Types.{FuncTypeValue}
use Rattle.wc_resolve.specs.Views.{FunctionView, KeyView}
use Rattle.wc_names.specs.declared.imports.Import.{Import}
use Rattle.wc_names.specs.Builtins.{signature}
use Rattle.wc_names.specs.Keys.{scope_key}
use Rattle.wc_names.specs.Meanings.{Meaning, means, refuses, no_such_export}
use Rattle.wc_names.specs.Mangling.{Scheme, ResourceOperation, resource_drop, resource_new, resource_rep, NamesResource, NamesTaskReturn}
use Rattle.wc_validate.specs.Classifications.{FaultKind, IsImportClassification, of_imports}
use Rattle.wc_names.specs.Views.{ImportView, exported_task_return}
use Rattle.wc_names.proofs.MeaningLemmas.{resource_unique, task_return_unique}
use Rattle.wc_names.specs.WitIntrinsics.{of_resource, task_return, no_task_return, resource_row}
use Rattle.wc_validate.proofs.ClassificationLemmas.{classified_as}
use Rattle.wc_validate.specs.Private.Imports.Kinds.{IsIntrinsic, MeansIntrinsic, MeansOnResource}
use Rattle.wc_validate.specs.Private.Imports.Lookups.{LookupScope, function_in}
use Rattle.wc_validate.specs.Private.Imports.Intrinsics.{has_result}

pub not_found : {X : Type 0} {o : Option X} (x : X) → None ≡ o → o ≡ Some x → ⊥
not_found x none some = let both : None ≡ Some x = none ∙ some in let bad : ⊥ = cc both in bad

pub same_meaning : (i j : ImportView) (a b : FuncTypeValue) → i ≡ j → a ≡ b → means i (Some a) ≡ means j (Some b)
same_meaning i j a b e f = cc (e, f)

pub same_task : (k l : KeyView) (o : Option ℕ) (f h : FunctionView) → k ≡ l → f ≡ h → exported_task_return k o f ≡ exported_task_return l o h
same_task k l o f h d e = cc (d, e)

pub with_result : (imported : Bool) (op : ResourceOperation) → has_result imported op ≡ true → signature (I32 ∷ []) (I32 ∷ []) ≡ (resource_row imported op).ty
with_result true op h = absurd (let bad : ⊥ = cc h in bad)
with_result false resource_drop h = absurd (let bad : ⊥ = cc h in bad)
with_result false resource_new h = refl
with_result false resource_rep h = refl

pub without_result : (imported : Bool) (op : ResourceOperation) → has_result imported op ≡ false → signature (I32 ∷ []) [] ≡ (resource_row imported op).ty
without_result true op h = refl
without_result false resource_drop h = refl
without_result false resource_new h = absurd (let bad : ⊥ = cc h in bad)
without_result false resource_rep h = absurd (let bad : ⊥ = cc h in bad)

module _ (s : Scheme) (l : LookupScope) (name : List ℕ) where
  -- the classification of the resource of a name is that on the name
  pub of_named_resource : {F : Type 0} (kind : F → FaultKind) (op : ResourceOperation) (resource : List ℕ) (ty : FuncTypeValue) (o : Result (Option Import) F)
      → NamesResource s op resource name
      → IsImportClassification kind (MeansOnResource l op resource) ty o → IsImportClassification kind (IsIntrinsic s l name (of_resource op)) ty o
  of_named_resource kind op resource ty o named v = classified_as of_imports kind _ _ ty o (λ m h. (resource, h.0, named, h.1, h.2)) (λ m h. from m h) v where
    from : (m : Meaning) → IsIntrinsic s l name (of_resource op) m → MeansOnResource l op resource m
    from m h = subst (λ z. MeansOnResource l op z m) (resource_unique s op h.0 resource name h.2 named) (h.1, h.3, h.4)

  pub no_task : ((x : List ℕ) → ¬ NamesTaskReturn s x name) → (m : Meaning) → ¬ MeansIntrinsic s l (task_return ∷ no_task_return ∷ []) name m
  no_task none m (inl h) = none h.0 h.2
  no_task none m (inr (n, inl h)) = none h.0 h.1
  no_task none m (inr (n, inr h)) = h.1

  pub is_task : (function : List ℕ) (f : FunctionView) (i : ImportView) → NamesTaskReturn s function name → function_in l function ≡ Some f
      → i ≡ exported_task_return (scope_key l.scope function) l.scope.interface f → MeansIntrinsic s l (task_return ∷ no_task_return ∷ []) name (means i None)
  is_task function f i named there is = inl (function, f, named, there, ap (λ z. means z None) is)

  pub is_no_task : (function : List ℕ) → NamesTaskReturn s function name → None ≡ function_in l function
      → MeansIntrinsic s l (task_return ∷ no_task_return ∷ []) name (refuses no_such_export)
  is_no_task function named none = inr (not_first, inl (function, named, sym none, refl)) where
    not_first : (m : Meaning) → ¬ IsIntrinsic s l name task_return m
    not_first m h = not_found h.1 none (subst (λ z. function_in l z ≡ Some h.1) (task_return_unique s h.0 function name h.2 named) h.3)
