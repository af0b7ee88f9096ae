-- What follows of the parts of a classification: one kind of names after another.
use Rattle.std.proofs.Common.{◌≡◌, ◌≢◌, true, false, is_some, List, [], ◌∷◌, ◌++◌, Option, Some, None, Result, Ok, Err, IsErrAnd, inl, inr, refl, sym, ap, subst, ◌∙◌}
use Rattle.std.specs.Prelude.{IsSomeAnd}
use Rattle.wc_read.specs.Types.{FuncTypeValue}
use Rattle.wc_names.specs.declared.exports.Export.{Export}
use Rattle.wc_names.specs.declared.imports.Import.{Import}
use Rattle.wc_validate.specs.Classifications.{FaultKind, ItemKind, out_of_memory, wrong_signature, refused_name, other_fault, of_exports, of_imports, IsClassification, IsTypeFault, IsExportClassification, IsImportClassification, IsReason, IsTypeChecked}
use Rattle.wc_names.specs.Exports.{ExportMeaning, is_export}
use Rattle.wc_names.specs.ExportViews.{ExportView, export_view}
use Rattle.wc_names.specs.First.{FirstOf}
use Rattle.wc_names.specs.Imports.{func_type}
use Rattle.wc_names.specs.Meanings.{Refusal, Meaning, means}
use Rattle.wc_names.specs.Views.{import_view}
use Rattle.wc_names.proofs.SearchLemmas.{NoneOf, first_after, first_append, first_of_after, none_of}

meaning_as : {M : Type 0} (Means Other : M → Type 0) (o : Option M) → ((m : M) → Means m → Other m) → IsSomeAnd o Means → IsSomeAnd o Other
meaning_as Means Other None to h = h
meaning_as Means Other (Some m) to h = to m h

-- a reason by other words for what the name means
reason_as : {V W M T : Type 0} (items : ItemKind V W M T) (Means Other : M → Type 0) (ty : T) (k : FaultKind)
    → ((m : M) → Means m → Other m) → IsReason items Means ty k → IsReason items Other ty k
reason_as items Means Other ty out_of_memory to r = tt
reason_as items Means Other ty (wrong_signature (Some wanted)) to r = (r.0, to _ r.1, r.2)
reason_as items Means Other ty (wrong_signature None) to r = (r.0, r.1, to _ r.2, r.3)
reason_as items Means Other ty (refused_name why) to r = meaning_as Means Other (items.refusal why) to r
reason_as items Means Other ty other_fault to r = r

-- a type that is not the one that it must be; and an allocation that failed
pub type_mismatch : (k : FaultKind) (ty required : FuncTypeValue) → k ≡ wrong_signature (Some required) → ty ≢ required → IsTypeFault k ty required
type_mismatch k ty required is differ = subst (λ z. IsTypeFault z ty required) (sym is) (refl, differ)

pub type_failed : {F V : Type 0} (kind : F → FaultKind) (r : Result (Option V) F) (v : V) (ty required : FuncTypeValue) (f : F) → IsErrAnd r (λ e. e ≡ f)
    → kind f ≡ out_of_memory → IsTypeChecked kind r v ty required
type_failed kind (Ok o) v ty required f h is = absurd h
type_failed kind (Err e) v ty required f h is = subst (λ z. IsTypeFault z ty required) (sym (ap kind h ∙ is)) tt

module _ {V W M T F : Type 0} (items : ItemKind V W M T) (kind : F → FaultKind) where
  -- a value whose type was compared, where types of items that are functions are one only if these types are
  pub classified_checked : ((t u : FuncTypeValue) → items.function_type t ≡ items.function_type u → t ≡ u)
      → (Means : M → Type 0) (r : Result (Option V) F) (v : V) (ty required : FuncTypeValue)
      → IsTypeChecked kind r v ty required → Means (items.meaning (items.view v) (Some required))
      → IsClassification items kind Means (items.function_type ty) r
  unfolding IsClassification
  classified_checked one Means (Ok None) v ty required t m = absurd t
  classified_checked one Means (Ok (Some w)) v ty required t m =
      (Some required, subst (λ z. Means (items.meaning (items.view z) (Some required))) (sym t.0) m, ap items.function_type t.1)
  classified_checked one Means (Err f) v ty required t m = checked_fault (kind f) t where
    checked_fault : (k : FaultKind) → IsTypeFault k ty required → IsReason items Means (items.function_type ty) k
    checked_fault out_of_memory t = tt
    checked_fault (wrong_signature (Some wanted)) t =
        subst (λ z. IsReason items Means (items.function_type ty) (wrong_signature (Some z))) (sym t.0) (items.view v, m, λ same. t.1 (one ty required same))
    checked_fault (wrong_signature None) t = absurd t
    checked_fault (refused_name why) t = absurd t
    checked_fault other_fault t = absurd t

  -- a value whose name fixes no signature
  pub classified_unchecked : (Means : M → Type 0) (v : V) (ty : T) → Means (items.meaning (items.view v) None)
      → IsClassification items kind Means ty (Ok (Some v))
  unfolding IsClassification
  classified_unchecked Means v ty m = (None, m, tt)

  -- None, where the name means nothing
  pub classified_nothing : (Means : M → Type 0) (ty : T) → ((m : M) → ¬ Means m) → IsClassification items kind Means ty (Ok None)
  unfolding IsClassification
  classified_nothing Means ty none = none

  -- a fault, by its reason
  pub classified_fault : (Means : M → Type 0) (ty : T) (f : F) → IsReason items Means ty (kind f) → IsClassification items kind Means ty (Err f)
  unfolding IsClassification
  classified_fault Means ty f reason = reason

  -- a name that is refused
  pub classified_refused : (Means : M → Type 0) (ty : T) (f : F) (why : Refusal) → kind f ≡ refused_name why → IsSomeAnd (items.refusal why) Means
      → IsClassification items kind Means ty (Err f)
  unfolding IsClassification
  classified_refused Means ty f why is m = subst (IsReason items Means ty) (sym is) m

  -- another type than the signature that the name fixes
  pub classified_mismatch : (Means : M → Type 0) (ty : T) (f : F) (v : W) (required : FuncTypeValue) → kind f ≡ wrong_signature (Some required)
      → Means (items.meaning v (Some required)) → ty ≢ items.function_type required → IsClassification items kind Means ty (Err f)
  unfolding IsClassification
  classified_mismatch Means ty f v required is m differ = subst (IsReason items Means ty) (sym is) (v, m, differ)

  -- an allocation failed
  pub classified_memory : (Means : M → Type 0) (ty : T) (f : F) → kind f ≡ out_of_memory → IsClassification items kind Means ty (Err f)
  unfolding IsClassification
  classified_memory Means ty f is = subst (IsReason items Means ty) (sym is) tt

  -- a fault that is passed on
  pub classified_passed : (Means : M → Type 0) (ty : T) (r : Result (Option V) F) (f : F) → IsErrAnd r (λ e. e ≡ f)
      → IsClassification items kind Means ty (Err f) → IsClassification items kind Means ty r
  classified_passed Means ty (Ok o) f h c = absurd h
  classified_passed Means ty (Err e) f h c = subst (λ z. IsClassification items kind Means ty (Err z)) (sym h) c

  -- an allocation failed in what was called
  pub classified_failed : (Means : M → Type 0) (ty : T) (r : Result (Option V) F) (f : F) → IsErrAnd r (λ e. e ≡ f)
      → kind f ≡ out_of_memory → IsClassification items kind Means ty r
  classified_failed Means ty r f h is = classified_passed Means ty r f h (classified_memory Means ty f is)

  -- an answer by other words for what the name means
  pub classified_as : (Means Other : M → Type 0) (ty : T) (r : Result (Option V) F) → ((m : M) → Means m → Other m) → ((m : M) → Other m → Means m)
      → IsClassification items kind Means ty r → IsClassification items kind Other ty r
  unfolding IsClassification
  classified_as Means Other ty (Ok None) to from c = λ m n. c m (from m n)
  classified_as Means Other ty (Ok (Some v)) to from c = (c.0, to _ c.1, c.2)
  classified_as Means Other ty (Err f) to from c = reason_as items Means Other ty (kind f) to c

  -- kinds of names one after another: what the first kind answers, if it is not None, is what all answer
  pub classified_err : {K : Type 0} (H : K → M → Type 0) (k : K) (ks : List K) (ty : T) (f : F) → IsClassification items kind (H k) ty (Err f)
      → IsClassification items kind (FirstOf H (k ∷ ks)) ty (Err f)
  unfolding IsClassification
  classified_err H k ks ty f c = reason_as items (H k) (FirstOf H (k ∷ ks)) ty (kind f) (λ m h. inl h) c

  pub classified_some : {K : Type 0} (H : K → M → Type 0) (k : K) (ks : List K) (ty : T) (o : Option V) → IsClassification items kind (H k) ty (Ok o)
      → is_some o ≡ true
      → IsClassification items kind (FirstOf H (k ∷ ks)) ty (Ok o)
  unfolding IsClassification
  classified_some H k ks ty None c some = absurd (let bad : ⊥ = cc some in bad)
  classified_some H k ks ty (Some v) c some = (c.0, inl c.1, c.2)

  -- where the first kind answers None, what the others answer is what all answer
  pub classified_next : {K : Type 0} (H : K → M → Type 0) (k : K) (ks : List K) (ty : T) (r : Result (Option V) F) → ((m : M) → ¬ H k m)
      → IsClassification items kind (FirstOf H ks) ty r → IsClassification items kind (FirstOf H (k ∷ ks)) ty r
  classified_next H k ks ty r none c = classified_as (FirstOf H ks) (FirstOf H (k ∷ ks)) ty r (λ m f. inr (none, f)) (λ m f. later m f) c where
    later : (m : M) → FirstOf H (k ∷ ks) m → FirstOf H ks m
    later m (inl h) = absurd (none m h)
    later m (inr h) = h.1

  pub classified_none : {K : Type 0} (H : K → M → Type 0) (k : K) (ks : List K) (ty : T) (o : Option V) (r : Result (Option V) F)
      → IsClassification items kind (H k) ty (Ok o) → is_some o ≡ false
      → IsClassification items kind (FirstOf H ks) ty r → IsClassification items kind (FirstOf H (k ∷ ks)) ty r
  unfolding IsClassification
  classified_none H k ks ty None r c none rest = classified_next H k ks ty r c rest
  classified_none H k ks ty (Some v) r c none rest = absurd (let bad : ⊥ = cc none in bad)

  -- one kind alone
  pub classified_alone : {K : Type 0} (H : K → M → Type 0) (k : K) (ty : T) (r : Result (Option V) F) → IsClassification items kind (H k) ty r
      → IsClassification items kind (FirstOf H (k ∷ [])) ty r
  classified_alone H k ty r c = classified_as (H k) (FirstOf H (k ∷ [])) ty r (λ m h. inl h) (λ m h. only m h) c where
    only : (m : M) → FirstOf H (k ∷ []) m → H k m
    only m (inl h) = h
    only m (inr h) = absurd h.1

  -- a refusal is the last kind
  pub classified_last : {K : Type 0} (H : K → M → Type 0) (k : K) (ty : T) (f : F) (why : Refusal) → kind f ≡ refused_name why
      → IsSomeAnd (items.refusal why) (H k)
      → IsClassification items kind (FirstOf H (k ∷ [])) ty (Err f)
  classified_last H k ty f why is h = classified_alone H k ty (Err f) (classified_refused (H k) ty f why is h)

  -- groups of kinds, one list of kinds after another
  pub group_err : {K : Type 0} (H : K → M → Type 0) (xs ys : List K) (ty : T) (f : F) → IsClassification items kind (FirstOf H xs) ty (Err f)
      → IsClassification items kind (FirstOf H (xs ++ ys)) ty (Err f)
  unfolding IsClassification
  group_err H xs ys ty f c = reason_as items (FirstOf H xs) (FirstOf H (xs ++ ys)) ty (kind f) (λ m h. first_append H xs ys m h) c

  pub group_passed : {K : Type 0} (H : K → M → Type 0) (xs ys : List K) (ty : T) (r : Result (Option V) F) (f : F) → IsErrAnd r (λ e. e ≡ f)
      → IsClassification items kind (FirstOf H xs) ty (Err f) → IsClassification items kind (FirstOf H (xs ++ ys)) ty r
  group_passed H xs ys ty r f h c = classified_passed (FirstOf H (xs ++ ys)) ty r f h (group_err H xs ys ty f c)

  pub group_some : {K : Type 0} (H : K → M → Type 0) (xs ys : List K) (ty : T) (o : Option V) → IsClassification items kind (FirstOf H xs) ty (Ok o)
      → is_some o ≡ true
      → IsClassification items kind (FirstOf H (xs ++ ys)) ty (Ok o)
  unfolding IsClassification
  group_some H xs ys ty None c some = absurd (let bad : ⊥ = cc some in bad)
  group_some H xs ys ty (Some v) c some = (c.0, first_append H xs ys _ c.1, c.2)

  pub group_skipped : {K : Type 0} (H : K → M → Type 0) (xs ys : List K) (ty : T) (r : Result (Option V) F) → NoneOf H xs
      → IsClassification items kind (FirstOf H ys) ty r → IsClassification items kind (FirstOf H (xs ++ ys)) ty r
  group_skipped H xs ys ty r none c =
      classified_as (FirstOf H ys) (FirstOf H (xs ++ ys)) ty r (λ m f. first_after H xs ys m none f) (λ m f. first_of_after H xs ys m none f) c

  pub group_next : {K : Type 0} (H : K → M → Type 0) (xs ys : List K) (ty : T) (r : Result (Option V) F) → ((m : M) → ¬ FirstOf H xs m)
      → IsClassification items kind (FirstOf H ys) ty r → IsClassification items kind (FirstOf H (xs ++ ys)) ty r
  group_next H xs ys ty r none c = group_skipped H xs ys ty r (none_of H xs none) c

  pub group_none : {K : Type 0} (H : K → M → Type 0) (xs ys : List K) (ty : T) (o : Option V) (r : Result (Option V) F)
      → IsClassification items kind (FirstOf H xs) ty (Ok o) → is_some o ≡ false
      → IsClassification items kind (FirstOf H ys) ty r → IsClassification items kind (FirstOf H (xs ++ ys)) ty r
  unfolding IsClassification
  group_none H xs ys ty None r c none rest = group_next H xs ys ty r c rest
  group_none H xs ys ty (Some v) r c none rest = absurd (let bad : ⊥ = cc none in bad)

-- an import whose type was compared
pub classified_import : {F : Type 0} (kind : F → FaultKind) (Means : Meaning → Type 0) (r : Result (Option Import) F) (i : Import) (ty required : FuncTypeValue)
    → IsTypeChecked kind r i ty required → Means (means (import_view i) (Some required)) → IsImportClassification kind Means ty r
classified_import kind Means r i ty required t m = classified_checked of_imports kind (λ t u e. e) Means r i ty required t m

function_types : (t u : FuncTypeValue) → func_type t ≡ func_type u → t ≡ u
function_types t u e = cc e

-- an export of a function whose type was compared
pub classified_export : {F : Type 0} (kind : F → FaultKind) (Means : ExportMeaning → Type 0) (r : Result (Option Export) F) (x : Export)
    (ty required : FuncTypeValue)
    → IsTypeChecked kind r x ty required → Means (is_export (export_view x) (Some required)) → IsExportClassification kind Means (func_type ty) r
classified_export kind Means r x ty required t m = classified_checked of_exports kind function_types Means r x ty required t m

-- an export of a function whose type was compared, and that contracts see as this
pub export_made : {F : Type 0} (kind : F → FaultKind) (Means : ExportMeaning → Type 0) (r : Result (Option Export) F) (x : Export) (ty required : FuncTypeValue)
    (v : ExportView)
    → IsTypeChecked kind r x ty required → export_view x ≡ v → Means (is_export v (Some required)) → IsExportClassification kind Means (func_type ty) r
export_made kind Means r x ty required v t is m =
    classified_export kind Means r x ty required t (subst (λ z. Means (is_export z (Some required))) (sym is) m)

-- an export of a function with another type than its name fixes
pub export_mismatch : {F : Type 0} (kind : F → FaultKind) (Means : ExportMeaning → Type 0) (ty : FuncTypeValue) (f : F) (v : ExportView)
    (required : FuncTypeValue) → kind f ≡ wrong_signature (Some required)
    → Means (is_export v (Some required)) → ty ≢ required → IsExportClassification kind Means (func_type ty) (Err f)
export_mismatch kind Means ty f v required is m differ =
    classified_mismatch of_exports kind Means (func_type ty) f v required is m (λ same. differ (function_types ty required same))
