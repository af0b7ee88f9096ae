-- Imports that are recorded one after another.
use Rattle.std.proofs.Common.{◌≡◌, ◌≢◌, ℕ, zero, suc, List, [], ◌∷◌, ◌++◌, take, Option, Some, None, IsSomeAnd, OnOk, IfErr, Result, Ok, Err, refl, sym, ap, subst, ◌∙◌, inl, inr, append_assoc, append-nil}
use Rattle.std.specs.List.{slice_get}
use Rattle.std.specs.Result.{IsErrAnd}
use Rattle.wc_read.specs.declared.types.FuncType.{FuncType}
use Rattle.wc_adapters.specs.Adapters.{WhichView}
use Rattle.wc_read.specs.Imports.{ImportValue}
use Rattle.wc_names.specs.declared.imports.Import.{Import as NamedImport}
use Rattle.wc_names.specs.Imports.{CoreImport}
use Rattle.wc_names.specs.Views.{ImportView, import_view}
use Rattle.wc_validate.specs.declared.refused.ImportFault.{ImportFault}
use Rattle.wc_validate.specs.Explain.{AreTypesOfImport, DifferenceView}
use Rattle.wc_validate.specs.declared.fault.ValidateFault.{ValidateFault}
use Rattle.wc_validate.specs.declared.fault.ValidateFault.TheVariants.{AdapterTypesDiffer, Memory, SignatureMismatch}
use Rattle.wc_validate.specs.declared.name_fault.NameFault.{NameFault}
use Rattle.wc_validate.specs.declared.name_fault.NameFault.TheVariants as naming
use Rattle.wc_read.specs.Types.{func_type_value}
use Rattle.wc_validate.specs.Fault.{of_name}
use Rattle.wc_validate.specs.declared.imports.recorder.Recorder.{Recorder}
use Rattle.wc_validate.specs.Private.Imports.Contexts.{IsImportRecorded, IsImportRefusal}
use Rattle.wc_validate.specs.Imports.Entries.{Entry, single, whole}
use Rattle.wc_validate.specs.Imports.Record.{ImportScope, library_entry, IsCoreImport, IsEntry, AreEntries, IsEntryCause, IsEntryFault, IsFaultOfImport, IsImportFault, entry_faults}
use Rattle.wc_validate.specs.Private.Imports.Recorder.{AreTypesOfEntry, IsRecordedAfter, IsRefusedBy, IsTypedRefusal, types_of}
use Rattle.wc_validate.specs.Imports.Classify.{IsClassified}
use Rattle.wc_validate.proofs.ContainedLemmas.{none_some, some_same}
use Rattle.wc_names.proofs.SearchLemmas.{first_kind}

pub by_library : (s : ImportScope) (i : ImportValue) (x : Entry) (o : Option Entry) → Some x ≡ o → o ≡ library_entry s.library i.module_name i.name
    → IsEntry s i x
by_library s i x o is same = inl (sym (is ∙ same))

pub by_name : (s : ImportScope) (i : ImportValue) (v : NamedImport) (o : Option Entry) → None ≡ o → o ≡ library_entry s.library i.module_name i.name
    → (a : CoreImport) → IsCoreImport s i a → IsClassified s.name_scope a (Ok v)
    → IsEntry s i (single i.module_name i.name (import_view v))
unfolding IsClassified
by_name s i v o is same a core h = inr (sym (is ∙ same), a, import_view v, h.0, core, h.1, h.2, refl)

-- why the name of an import is refused, with the types that differ where its type is not the one that the name fixes
abbrev IsNameTyped : ImportScope → List Entry → ImportValue → NameFault → Option DifferenceView → Type 0
IsNameTyped s before i (naming.SignatureMismatch wanted) types = IsSomeAnd types (AreTypesOfImport s before i SignatureMismatch)
IsNameTyped s before i f types = types ≡ None

pub refused_name : (s : ImportScope) (before : List Entry) (i : ImportValue) (f : NameFault) (types : Option DifferenceView)
    → library_entry s.library i.module_name i.name ≡ None → (a : CoreImport) → IsCoreImport s i a → IsClassified s.name_scope a (Err f)
    → IsNameTyped s before i f types → IsImportRefusal s before i (of_name f) types
unfolding IsClassified
refused_name s before i naming.Memory types is a core h typed = tt
refused_name s before i (naming.SignatureMismatch wanted) types is a core h typed = (inl (is, a, core, (h.0, func_type_value wanted, h.1, h.2)), typed)
refused_name s before i naming.NotAFunction types is a core h typed = (inl (is, a, core, h), typed)
refused_name s before i naming.NoRootImport types is a core h typed = (inl (is, a, core, h), typed)
refused_name s before i naming.RootNotFunction types is a core h typed = (inl (is, a, core, h), typed)
refused_name s before i naming.BadSyntax types is a core h typed = (inl (is, a, core, h), typed)
refused_name s before i naming.UnknownInterface types is a core h typed = (inl (is, a, core, h), typed)
refused_name s before i naming.UnknownIntrinsic types is a core h typed = (inl (is, a, core, h), typed)
refused_name s before i naming.MissingFunction types is a core h typed = (inl (is, a, core, h), typed)
refused_name s before i naming.NoSuchExport types is a core h typed = (inl (is, a, core, h), typed)
refused_name s before i naming.TypedReference types is a core h typed = (inl (is, a, core, h), typed)

untyped_name : (s : ImportScope) (before : List Entry) (i : ImportValue) (f : NameFault) → ((wanted : FuncType) → f ≢ naming.SignatureMismatch wanted)
    → IsNameTyped s before i f None
untyped_name s before i (naming.SignatureMismatch wanted) other = absurd (other wanted refl)
untyped_name s before i f other = refl

pub other_name : (s : ImportScope) (before : List Entry) (i : ImportValue) (f : NameFault) (g : ValidateFault)
    → ((wanted : FuncType) → f ≢ naming.SignatureMismatch wanted) → g ≡ of_name f → library_entry s.library i.module_name i.name ≡ None → (a : CoreImport)
    → IsCoreImport s i a → IsClassified s.name_scope a (Err f) → IsImportRefusal s before i g None
other_name s before i f g other named library a core h =
    subst (λ z. IsImportRefusal s before i z None) (sym named) (refused_name s before i f None library a core h (untyped_name s before i f other))

-- an import that was recorded as its entry, or was not
pub recorded_as : {T F : Type 0} (r : Result T F) (s : ImportScope) (before : List Entry) (i : ImportValue) (x : Entry) (recorder : Recorder) → IsEntry s i x
    → OnOk r (IsRecordedAfter before x recorder) → OnOk r (IsImportRecorded s before i recorder)
recorded_as (Ok t) s before i x recorder entry h = (x, entry, h)
recorded_as (Err f) s before i x recorder entry h = tt

no_mismatch : (before : List Entry) (x : Entry) → ¬ IsEntryCause before x SignatureMismatch
no_mismatch before (whole m which) h = h
no_mismatch before (single m n i) h = h

no_entry_mismatch : (before : List Entry) (x : Entry) → ¬ IsEntryFault before x SignatureMismatch
no_entry_mismatch before x h =
    let kind = first_kind (λ k (g : ValidateFault). IsEntryCause before x k × (g ≡ k)) entry_faults SignatureMismatch h in
    no_mismatch before x (subst (IsEntryCause before x) (sym kind.1.1) kind.1.0)

-- an entry that is all of a module, and one of a single import
whole_untyped : (before : List Entry) (m : List ℕ) (which : WhichView) (types : Option DifferenceView)
    → ¬ IsSomeAnd types (AreTypesOfEntry before (whole m which))
whole_untyped before m which None h = h
whole_untyped before m which (Some d) h = h

whole_refused : (s : ImportScope) (before : List Entry) (i : ImportValue) (m : List ℕ) (which : WhichView) (f : ValidateFault) (types : Option DifferenceView)
    → IsEntry s i (whole m which) → IsTypedRefusal before (whole m which) f types → IsImportRefusal s before i f types
whole_refused s before i m which Memory types entry h = tt
whole_refused s before i m which SignatureMismatch types entry h = absurd (no_entry_mismatch before (whole m which) h.0)
whole_refused s before i m which AdapterTypesDiffer types entry h = absurd (whole_untyped before m which types h.1)
whole_refused s before i m which f types entry h = (inr (whole m which, entry, h.0), h.1)

single_typed : (s : ImportScope) (before : List Entry) (i : ImportValue) (v : ImportView) (types : Option DifferenceView)
    → IsEntry s i (single i.module_name i.name v) → IsSomeAnd types (AreTypesOfEntry before (single i.module_name i.name v))
    → IsSomeAnd types (AreTypesOfImport s before i AdapterTypesDiffer)
single_typed s before i v None entry h = h
single_typed s before i v (Some d) entry h =
    (h.0, h.1, subst (λ z. IsEntry s i (single i.module_name i.name z)) h.2 entry, h.3, h.4)

single_refused : (s : ImportScope) (before : List Entry) (i : ImportValue) (v : ImportView) (f : ValidateFault) (types : Option DifferenceView)
    → IsEntry s i (single i.module_name i.name v) → IsTypedRefusal before (single i.module_name i.name v) f types → IsImportRefusal s before i f types
single_refused s before i v Memory types entry h = tt
single_refused s before i v SignatureMismatch types entry h = absurd (no_entry_mismatch before (single i.module_name i.name v) h.0)
single_refused s before i v AdapterTypesDiffer types entry h =
    (inr (single i.module_name i.name v, entry, h.0), single_typed s before i v types entry h.1)
single_refused s before i v f types entry h = (inr (single i.module_name i.name v, entry, h.0), h.1)

abbrev pub IsRefusedOf : ImportScope → List Entry → ImportValue → ImportFault → Type 0
IsRefusedOf s before i x = IsImportRefusal s before i x.fault (types_of x)

pub refused_whole : {T : Type 0} (r : Result T ImportFault) (s : ImportScope) (before : List Entry) (i : ImportValue) (m : List ℕ) (which : WhichView)
    → IsEntry s i (whole m which) → IfErr r (IsRefusedBy before (whole m which)) → IfErr r (IsRefusedOf s before i)
refused_whole (Ok t) s before i m which entry h = tt
refused_whole (Err x) s before i m which entry h = whole_refused s before i m which x.fault (types_of x) entry h

pub refused_single : {T : Type 0} (r : Result T ImportFault) (s : ImportScope) (before : List Entry) (i : ImportValue) (v : ImportView)
    → IsEntry s i (single i.module_name i.name v) → IfErr r (IsRefusedBy before (single i.module_name i.name v)) → IfErr r (IsRefusedOf s before i)
refused_single (Ok t) s before i v entry h = tt
refused_single (Err x) s before i v entry h = single_refused s before i v x.fault (types_of x) entry h

-- an allocation that failed
pub failed_import : {T : Type 0} (r : Result T ImportFault) (s : ImportScope) (before : List Entry) (i : ImportValue)
    → IsErrAnd r (λ x. (x.fault ≡ Memory) × (x.types ≡ None)) → IfErr r (IsRefusedOf s before i)
failed_import (Ok t) s before i h = tt
failed_import (Err x) s before i h = subst (λ z. IsImportRefusal s before i z (types_of x)) (sym h.0) tt

-- the import at which validation stops refuses all
pub refused_after : (s : ImportScope) (b : List Entry) (is : List ImportValue) (n : ℕ) (i : ImportValue) (xs : List Entry) (f : ValidateFault)
    → slice_get is n ≡ Some i → AreEntries s b (take n is) xs → IsFaultOfImport s (b ++ xs) i f → IsImportFault s b is f
refused_after s b [] n i xs f there h k = absurd (none_some i there)
refused_after s b (j ∷ js) zero i xs f there h k =
    inl (subst (λ z. IsFaultOfImport s b z f) (sym (some_same there))
    (subst (λ z. IsFaultOfImport s z i f) (ap (λ z. b ++ z) h ∙ append-nil b) k))
refused_after s b (j ∷ js) (suc n) i [] f there h k = absurd h
refused_after s b (j ∷ js) (suc n) i (x ∷ xs) f there h k =
    inr (
      x,
      h.0,
      h.1,
      refused_after s (b ++ x ∷ []) js n i xs f there h.2 (subst (λ z. IsFaultOfImport s z i f) (sym (append_assoc b (x ∷ []) xs)) k),
    )
