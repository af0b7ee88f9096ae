-- One entry more of a recorder, and why an entry is refused.
use Rattle.std.proofs.Common.{◌≡◌, ◌≢◌, ℕ, Bool, true, false, cond, List, [], ◌∷◌, ◌++◌, map, Option, Some, None, IfErr, Result, Ok, Err, refl, sym, ap, subst, ◌∙◌, inl, inr}
use Rattle.std.specs.Map.{lookup}
use Rattle.std.specs.Option.{option_map}
use Rattle.std.specs.Result.{IsErrAnd}
use Rattle.std.specs.Str.{bytes_eq}
use Rattle.wc_read.specs.declared.types.MemoryType.{MemoryType}
use Rattle.wc_read.specs.Types.{FuncTypeValue}
use Rattle.wc_adapters.specs.Adapters.{WhichView}
use Rattle.wc_names.specs.Views.{ImportView, adapter_export}
use Rattle.wc_validate.specs.declared.fault.ValidateFault.{ValidateFault}
use Rattle.wc_validate.specs.declared.fault.ValidateFault.TheVariants.{Memory, WholeDiffers, Mixed, SeveralMemoryImports, DuplicateImport, AdapterTypesDiffer}
use Rattle.wc_validate.specs.Imports.AdapterTypes.{Agrees, first_some}
use Rattle.wc_validate.specs.Imports.Entries.{Entry, single, whole, InstanceRecord, all_of, names_of, Records, by_modules, IsAllRecorded, memory_type_of, memory_of, adapter_type_in, adapter_type_of, first_by}
use Rattle.wc_validate.specs.Imports.Record.{IsEntryCause, IsEntryFault, IsValidAfter}
use Rattle.wc_validate.specs.Imports.Instances.{instance_entry, add_to, put_in, IsFree, IsPutFault, IsInstanceFault, IsWholeFault, IsWholePut}
use Rattle.wc_validate.specs.declared.imports.recorder.Recorder.{Recorder}
use Rattle.wc_validate.specs.declared.place.TypeDifference.{TypeDifference}
use Rattle.wc_validate.specs.declared.refused.ImportFault.{ImportFault}
use Rattle.wc_validate.specs.Place.{difference_view}
use Rattle.wc_validate.specs.Private.Imports.Recorder.{AgreesIn, AreTypesOfEntry, IsDifference, IsDifferenceIn, IsRefusedBy, IsTypedRefusal, types_of, IsRecordedAfter, IsRecorderOf, types_in, IsOneMemory, IsNoteFault, IsRefusedAfter}
use Rattle.wc_validate.specs.Imports.Map.{memory_in_names, memory_in_record, memory_in}
use Rattle.wc_validate.proofs.IndexLemmas.{first_by_push, first_some_none}
use Rattle.wc_validate.proofs.InstanceLemmas.{recorded_after}
use Rattle.wc_validate.proofs.WholeLemmas.{whole_after}

-- the memory among the records after one import more
memory_added : (r : InstanceRecord) (n : List ℕ) (i : ImportView) → memory_type_of i ≡ None → memory_in_record (add_to r n i) ≡ memory_in_record r
memory_added (all_of w) n i none = refl
memory_added (names_of names) n i none =
    first_by_push (λ (x : List ℕ × ImportView). memory_type_of x.1) names (n, i)
    ∙ (ap (first_some (memory_in_names names)) none ∙ first_some_none (memory_in_names names))

stays_at : (e : List ℕ × InstanceRecord) (es : Records) (m n : List ℕ) (i : ImportView) (b : Bool) → memory_type_of i ≡ None
    → memory_in (put_in es m n i) ≡ memory_in es
    → memory_in (cond b ((e.0, add_to e.1 n i) ∷ es) (e ∷ put_in es m n i)) ≡ memory_in (e ∷ es)
stays_at e es m n i true none rest = ap (λ z. first_some z (memory_in es)) (memory_added e.1 n i none)
stays_at e es m n i false none rest = ap (first_some (memory_in_record e.1)) rest

pub memory_stays : (es : Records) (m n : List ℕ) (i : ImportView) → memory_type_of i ≡ None → memory_in (put_in es m n i) ≡ memory_in es
memory_stays [] m n i none = ap (λ z. first_some (first_some z None) None) none
memory_stays (e ∷ es) m n i none = stays_at e es m n i (bytes_eq m e.0) none (memory_stays es m n i none)

none_first : {X : Type 0} (a b : Option X) → first_some a b ≡ None → a ≡ None
none_first None b h = refl
none_first (Some x) b h = absurd (let bad : ⊥ = cc h in bad)

none_second : {X : Type 0} (a b : Option X) → first_some a b ≡ None → b ≡ None
none_second None b h = h
none_second (Some x) b h = absurd (let bad : ⊥ = cc h in bad)

memory_new : (r : InstanceRecord) (n : List ℕ) (i : ImportView) → memory_in_record r ≡ None → ((w : WhichView) → ¬ (r ≡ all_of w))
    → memory_in_record (add_to r n i) ≡ memory_type_of i
memory_new (all_of w) n i none no_whole = absurd (no_whole w refl)
memory_new (names_of names) n i none no_whole =
    first_by_push (λ (x : List ℕ × ImportView). memory_type_of x.1) names (n, i) ∙ ap (λ z. first_some z (memory_type_of i)) none

gets_at : (e : List ℕ × InstanceRecord) (es : Records) (m n : List ℕ) (i : ImportView) (b : Bool) → bytes_eq m e.0 ≡ b → memory_in (e ∷ es) ≡ None
    → ¬ IsAllRecorded (e ∷ es) m
    → (¬ IsAllRecorded es m → memory_in (put_in es m n i) ≡ memory_type_of i)
    → memory_in (cond b ((e.0, add_to e.1 n i) ∷ es) (e ∷ put_in es m n i)) ≡ memory_type_of i
gets_at e es m n i true is none free rest =
    let no_whole = λ (w : WhichView) (h : e.1 ≡ all_of w). free
    (w, ap (λ b. cond b (Some e.1) (lookup (bytes_eq m) es)) is ∙ ap (λ (z : InstanceRecord). Some z) h) in
    ap (λ z. first_some z (memory_in es)) (memory_new e.1 n i (none_first (memory_in_record e.1) (memory_in es) none) no_whole)
    ∙ (ap (first_some (memory_type_of i)) (none_second (memory_in_record e.1) (memory_in es) none) ∙ first_some_none (memory_type_of i))
gets_at e es m n i false is none free rest =
    ap (λ z. first_some z (memory_in (put_in es m n i))) (none_first (memory_in_record e.1) (memory_in es) none)
    ∙ rest (λ h. free (h.0, ap (λ b. cond b (Some e.1) (lookup (bytes_eq m) es)) is ∙ h.1))

pub memory_gets : (es : Records) (m n : List ℕ) (i : ImportView) → memory_in es ≡ None → ¬ IsAllRecorded es m → memory_in (put_in es m n i) ≡ memory_type_of i
memory_gets [] m n i none free = first_some_none (first_some (memory_type_of i) None) ∙ first_some_none (memory_type_of i)
memory_gets (e ∷ es) m n i none free =
    gets_at e es m n i (bytes_eq m e.0) refl none free (memory_gets es m n i (none_second (memory_in_record e.1) (memory_in es) none))

-- the memory after one import more that is no second memory
pub memory_put : (es : Records) (m n : List ℕ) (i : ImportView) (memory : Option MemoryType) → memory_in es ≡ memory → IsOneMemory memory i
    → ¬ IsAllRecorded es m → memory_in (put_in es m n i) ≡ first_some memory (memory_type_of i)
memory_put es m n i memory is (inl none) free = memory_stays es m n i none ∙ (is ∙ (sym (first_some_none memory) ∙ ap (first_some memory) (sym none)))
memory_put es m n i memory is (inr none) free = memory_gets es m n i (is ∙ none) free ∙ ap (λ z. first_some z (memory_type_of i)) (sym none)

-- the memory after a module that is all of another one
pub memory_whole : (old new : Records) (m : List ℕ) (w : WhichView) → IsWholePut old new m w → memory_in new ≡ memory_in old
memory_whole old new m w (inl h) =
    ap memory_in h.1 ∙ (first_by_push (λ (x : List ℕ × InstanceRecord). memory_in_record x.1) old (m, all_of w) ∙ first_some_none (memory_in old))
memory_whole old new m w (inr h) = ap memory_in h.1

-- an import that is no second memory, whose name is free, and that agrees with the first types of functions of adapters
agrees_here : (noted : List ℕ → List ℕ → Option FuncTypeValue) (i : ImportView) (adapter function : List ℕ) (ty other : FuncTypeValue) → AgreesIn noted i
    → i ≡ adapter_export adapter function ty → noted adapter function ≡ Some other → ty ≡ other
agrees_here noted i adapter function ty other agrees is there =
    let here : Agrees (noted adapter function) ty = subst (AgreesIn noted) is agrees in
    subst (λ z. Agrees z ty) there here

pub valid_single : (before : List Entry) (m n : List ℕ) (i : ImportView) → IsOneMemory (first_by memory_of before) i → IsFree (by_modules before) m n
    → AgreesIn (λ a f. first_by (adapter_type_of a f) before) i → IsValidAfter before (single m n i)
valid_single before m n i (inl none) free agrees SeveralMemoryImports h =
    let both : Some h.0 ≡ None = sym (ap memory_type_of h.2) ∙ none in let bad : ⊥ = cc both in bad
valid_single before m n i (inr none) free agrees SeveralMemoryImports h = let both : Some h.1 ≡ None = sym h.3 ∙ none in let bad : ⊥ = cc both in bad
valid_single before m n i one free agrees Mixed h = free.0 h
valid_single before m n i one free agrees DuplicateImport h = free.1 h
valid_single before m n i one free agrees AdapterTypesDiffer h =
    h.6 (agrees_here (λ a f. first_by (adapter_type_of a f) before) i h.0 h.1 h.2 h.3 agrees h.4 h.5)
valid_single before m n i one free agrees f h = h

-- that it is not a second memory is not refused
not_second : (before : List Entry) (m n : List ℕ) (i : ImportView) → IsOneMemory (first_by memory_of before) i
    → ¬ IsEntryCause before (single m n i) SeveralMemoryImports
not_second before m n i (inl none) h = let both : Some h.0 ≡ None = sym (ap memory_type_of h.2) ∙ none in let bad : ⊥ = cc both in bad
not_second before m n i (inr none) h = let both : Some h.1 ≡ None = sym h.3 ∙ none in let bad : ⊥ = cc both in bad

-- why an entry is refused: the first of its faults that has a cause
pub refused_second : (before : List Entry) (m n : List ℕ) (i : ImportView) (f : ValidateFault) → IsNoteFault (first_by memory_of before) i f
    → IsRefusedAfter before (single m n i) f
refused_second before m n i Memory h = tt
refused_second before m n i SeveralMemoryImports h = inr (λ p h. h.0, inl (h, refl))
refused_second before m n i f h = absurd h

pub refused_put : (before : List Entry) (m n : List ℕ) (i : ImportView) (f : ValidateFault) → IsOneMemory (first_by memory_of before) i
    → IsPutFault (by_modules before) m n f → IsRefusedAfter before (single m n i) f
refused_put before m n i Memory one h = tt
refused_put before m n i Mixed one h = inr (λ p h. h.0, inr (λ p h. not_second before m n i one h.0, inl (h, refl)))
refused_put before m n i DuplicateImport one h =
    let not_mixed = λ (all : IsAllRecorded (by_modules before) m). let both : Some (names_of h.0) ≡ Some (all_of all.0) = sym h.2 ∙ all.1 in
    let bad : ⊥ = cc both in bad in
    inr (λ p h. h.0, inr (λ p h. not_second before m n i one h.0, inr (λ p h. not_mixed h.0, inl (h, refl))))
refused_put before m n i f one h = absurd h

differs_at : (before : List Entry) (m n adapter function : List ℕ) (ty : FuncTypeValue) (o : Option FuncTypeValue)
    → first_by (adapter_type_of adapter function) before ≡ o → ¬ Agrees o ty
    → IsEntryCause before (single m n (adapter_export adapter function ty)) AdapterTypesDiffer
differs_at before m n adapter function ty None is differ = absurd (differ refl)
differs_at before m n adapter function ty (Some other) is differ = (adapter, function, ty, other, refl, is, differ)

differs : (before : List Entry) (m n : List ℕ) (i : ImportView) → ¬ AgreesIn (λ a f. first_by (adapter_type_of a f) before) i
    → IsEntryCause before (single m n i) AdapterTypesDiffer
differs before m n (adapter_export adapter function ty) h =
    differs_at before m n adapter function ty (first_by (adapter_type_of adapter function) before) refl h
differs before m n i h = absurd (h tt)

pub refused_type : (before : List Entry) (m n : List ℕ) (i : ImportView) → IsOneMemory (first_by memory_of before) i → IsFree (by_modules before) m n
    → ¬ AgreesIn (λ a f. first_by (adapter_type_of a f) before) i → IsRefusedAfter before (single m n i) AdapterTypesDiffer
refused_type before m n i one free differ =
    inr (λ p h. h.0, inr (λ p h. not_second before m n i one h.0, inr (λ p h. free.0 h.0, inr (λ p h. free.1 h.0, inl (differs before m n i differ, refl)))))

-- all of a module
pub valid_whole : (before : List Entry) (m : List ℕ) (w : WhichView) (old new : Records) → old ≡ by_modules before → IsWholePut old new m w
    → IsValidAfter before (whole m w)
valid_whole before m w old new is (inl put) WholeDiffers h =
    let both : None ≡ Some (all_of h.0) = sym (subst (λ z. lookup (bytes_eq m) z ≡ None) is put.0) ∙ h.1 in let bad : ⊥ = cc both in bad
valid_whole before m w old new is (inr put) WholeDiffers h =
    let both : Some (all_of w) ≡ Some (all_of h.0) = sym (subst (λ z. lookup (bytes_eq m) z ≡ Some (all_of w)) is put.0) ∙ h.1 in
    h.2 (let e : h.0 ≡ w = cc both in e)
valid_whole before m w old new is (inl put) Mixed h =
    let both : None ≡ Some (names_of h.0) = sym (subst (λ z. lookup (bytes_eq m) z ≡ None) is put.0) ∙ h.1 in let bad : ⊥ = cc both in bad
valid_whole before m w old new is (inr put) Mixed h =
    let both : Some (all_of w) ≡ Some (names_of h.0) = sym (subst (λ z. lookup (bytes_eq m) z ≡ Some (all_of w)) is put.0) ∙ h.1 in let bad : ⊥ = cc both in bad
valid_whole before m w old new is put f h = h

refused_by : (before : List Entry) (m : List ℕ) (w : WhichView) (instance : InstanceRecord) (f : ValidateFault)
    → lookup (bytes_eq m) (by_modules before) ≡ Some instance → IsInstanceFault instance w f → IsEntryFault before (whole m w) f
refused_by before m w (all_of other) WholeDiffers there h = inl ((other, there, h), refl)
refused_by before m w (names_of names) Mixed there h =
    inr (
      λ p h. let both : Some (names_of names) ≡ Some (all_of h.0.0) = sym there ∙ h.0.1 in let bad : ⊥ = cc both in
          bad,
      inr (λ p h. h.0, inl ((names, there), refl)),
    )
refused_by before m w instance f there h = absurd h

pub refused_whole : (before : List Entry) (m : List ℕ) (w : WhichView) (records : Records) (f : ValidateFault) → records ≡ by_modules before
    → IsWholeFault records m w f → IsRefusedAfter before (whole m w) f
refused_whole before m w records Memory is h = tt
refused_whole before m w records f is h = refused_by before m w h.0 f (subst (λ z. lookup (bytes_eq m) z ≡ Some h.0) is h.1) h.2

agrees_as : (p q : List ℕ → List ℕ → Option FuncTypeValue) (i : ImportView) → ((a f : List ℕ) → p a f ≡ q a f) → AgreesIn p i → AgreesIn q i
agrees_as p q (adapter_export adapter function ty) same h = subst (λ z. Agrees z ty) (same adapter function) h
agrees_as p q i same h = tt

-- the types that differ of a function of an adapter: none where they are the same
agrees_at : (o : Option FuncTypeValue) (ty : FuncTypeValue) → IsDifference o ty None → Agrees o ty
agrees_at None ty h = refl
agrees_at (Some first) ty h = h

pub difference_none : (noted : List ℕ → List ℕ → Option FuncTypeValue) (i : ImportView) → IsDifferenceIn noted i None → AgreesIn noted i
difference_none noted (adapter_export adapter function ty) h = agrees_at (noted adapter function) ty h
difference_none noted i h = tt

apart_at : (o : Option FuncTypeValue) (ty : FuncTypeValue) (d : TypeDifference) → IsDifference o ty (Some d) → ¬ Agrees o ty
apart_at None ty d h g = absurd (let bad : ⊥ = cc h in bad)
apart_at (Some first) ty d h g = h.2 g

pub difference_some : (noted : List ℕ → List ℕ → Option FuncTypeValue) (i : ImportView) (d : TypeDifference) → IsDifferenceIn noted i (Some d)
    → ¬ AgreesIn noted i
difference_some noted (adapter_export adapter function ty) d h g = apart_at (noted adapter function) ty d h g
difference_some noted i d h g = absurd (let bad : ⊥ = cc h in bad)

types_at : (before : List Entry) (m n adapter function : List ℕ) (ty : FuncTypeValue) (d : TypeDifference) (o : Option FuncTypeValue)
    → first_by (adapter_type_of adapter function) before ≡ o → IsDifference o ty (Some d)
    → AreTypesOfEntry before (single m n (adapter_export adapter function ty)) (difference_view d)
types_at before m n adapter function ty d None is h = absurd (let bad : ⊥ = cc h in bad)
types_at before m n adapter function ty d (Some first) is h = (
  adapter,
  function,
  ap (adapter_export adapter function) (sym h.1),
  is ∙ ap (λ z. Some z) (sym h.0),
  λ e. h.2 (sym h.1 ∙ (e ∙ h.0)),
)

pub difference_types : (before : List Entry) (m n : List ℕ) (noted : List ℕ → List ℕ → Option FuncTypeValue) (i : ImportView) (d : TypeDifference)
    → ((a f : List ℕ) → noted a f ≡ first_by (adapter_type_of a f) before) → IsDifferenceIn noted i (Some d)
    → AreTypesOfEntry before (single m n i) (difference_view d)
difference_types before m n noted (adapter_export adapter function ty) d same h =
    types_at before m n adapter function ty d (noted adapter function) (sym (same adapter function)) h
difference_types before m n noted i d same h = absurd (let bad : ⊥ = cc h in bad)

-- a fault that compares no types
pub note_plain : (memory : Option MemoryType) (i : ImportView) (f : ValidateFault) → IsNoteFault memory i f → f ≢ AdapterTypesDiffer
note_plain memory i Memory h e = absurd (let bad : ⊥ = cc e in bad)
note_plain memory i SeveralMemoryImports h e = absurd (let bad : ⊥ = cc e in bad)
note_plain memory i f h e = absurd h

pub put_plain : (records : Records) (m n : List ℕ) (f : ValidateFault) → IsPutFault records m n f → f ≢ AdapterTypesDiffer
put_plain records m n Memory h e = absurd (let bad : ⊥ = cc e in bad)
put_plain records m n Mixed h e = absurd (let bad : ⊥ = cc e in bad)
put_plain records m n DuplicateImport h e = absurd (let bad : ⊥ = cc e in bad)
put_plain records m n f h e = absurd h

instance_plain : (instance : InstanceRecord) (w : WhichView) → ¬ IsInstanceFault instance w AdapterTypesDiffer
instance_plain (all_of other) w h = h
instance_plain (names_of names) w h = h

pub whole_plain : (records : Records) (m : List ℕ) (w : WhichView) (f : ValidateFault) → IsWholeFault records m w f → f ≢ AdapterTypesDiffer
whole_plain records m w AdapterTypesDiffer h e = absurd (instance_plain h.0 w h.2)
whole_plain records m w f h e = absurd (let bad : ⊥ = cc e in bad)

untyped : (before : List Entry) (x : Entry) (f : ValidateFault) → IsRefusedAfter before x f → f ≢ AdapterTypesDiffer → IsTypedRefusal before x f None
untyped before x Memory h plain = tt
untyped before x AdapterTypesDiffer h plain = absurd (plain refl)
untyped before x f h plain = (h, refl)

-- such a fault that is passed on
pub passed_plain : {T : Type 0} (before : List Entry) (x : Entry) (r : Result T ImportFault) (f : ValidateFault)
    → IsErrAnd r (λ e. (e.fault ≡ f) × (e.types ≡ None)) → IsRefusedAfter before x f → f ≢ AdapterTypesDiffer → IfErr r (IsRefusedBy before x)
passed_plain before x (Ok t) f h refused plain = tt
passed_plain before x (Err e) f h refused plain =
    subst (λ z. IsTypedRefusal before x z (types_of e)) (sym h.0)
    (subst (λ z. IsTypedRefusal before x f (option_map difference_view z)) (sym h.1) (untyped before x f refused plain))

module _ (before : List Entry) (m n : List ℕ) (i : ImportView) (old noted : Recorder) (is : IsRecorderOf old before) (same : noted.instances ≡ old.instances)
    (one : IsOneMemory old.memory i) where
  one_here : IsOneMemory (first_by memory_of before) i
  one_here = subst (λ z. IsOneMemory z i) is.memory one

  records_here : map instance_entry noted.instances.entries ≡ by_modules before
  records_here = ap (λ z. map instance_entry z.entries) same ∙ is.instances

  free_here : IsFree (map instance_entry noted.instances.entries) m n → IsFree (by_modules before) m n
  free_here free = subst (λ z. IsFree z m n) records_here free

  -- a single import was recorded
  pub recorded_single : (new : Recorder) → noted.memory ≡ first_some old.memory (memory_type_of i) → AgreesIn (types_in old) i
      → ((a f : List ℕ) → types_in noted a f ≡ first_some (types_in old a f) (adapter_type_in a f i))
      → map instance_entry new.instances.entries ≡ by_modules (before ++ single m n i ∷ []) → IsFree (map instance_entry noted.instances.entries) m n
      → new.memory ≡ noted.memory → new.adapter_types ≡ noted.adapter_types
      → IsRecordedAfter before (single m n i) new
  recorded_single new memory agrees types put free same_memory same_types = (
    valid_single before m n i one_here (free_here free) (agrees_as (types_in old) (λ a f. first_by (adapter_type_of a f) before) i is.types agrees),
    record {
      instances = put;
      memory = same_memory ∙ (memory ∙ (ap (λ z. first_some z (memory_type_of i)) is.memory ∙ sym (first_by_push memory_of before (single m n i))));
      memory_recorded =
          ap memory_in (recorded_after before m n i (free_here free).0)
          ∙ (memory_put (by_modules before) m n i old.memory is.memory_recorded one (free_here free).0 ∙ sym (same_memory ∙ memory));
      types = λ a f. ap (λ z. types_in (record { instances = new.instances; memory = new.memory; adapter_types = z }) a f) same_types
          ∙ (types a f ∙ (ap (λ z. first_some z (adapter_type_in a f i)) (is.types a f) ∙ sym (first_by_push (adapter_type_of a f) before (single m n i))));
    },
  )

  pub refused_single : (f : ValidateFault) → IsPutFault (map instance_entry noted.instances.entries) m n f → IsRefusedAfter before (single m n i) f
  refused_single f h = refused_put before m n i f one_here (subst (λ z. IsPutFault z m n f) records_here h)

  pub refused_differs : IsFree (map instance_entry noted.instances.entries) m n → ¬ AgreesIn (types_in old) i
      → IsRefusedAfter before (single m n i) AdapterTypesDiffer
  refused_differs free differ =
      refused_type before m n i one_here (free_here free) (λ h. differ
      (agrees_as (λ a f. first_by (adapter_type_of a f) before) (types_in old) i (λ a f. sym (is.types a f)) h))

pub refused_note : (before : List Entry) (m n : List ℕ) (i : ImportView) (old : Recorder) (f : ValidateFault) → IsRecorderOf old before
    → IsNoteFault old.memory i f → IsRefusedAfter before (single m n i) f
refused_note before m n i old f is h = refused_second before m n i f (subst (λ z. IsNoteFault z i f) is.memory h)

-- all of a module was recorded
pub recorded_whole : (before : List Entry) (m : List ℕ) (w : WhichView) (old new : Recorder) → IsRecorderOf old before → new.memory ≡ old.memory
    → new.adapter_types ≡ old.adapter_types
    → IsWholePut (map instance_entry old.instances.entries) (map instance_entry new.instances.entries) m w → IsRecordedAfter before (whole m w) new
recorded_whole before m w old new is same_memory same_types put =
    let after : map instance_entry new.instances.entries ≡ by_modules (before ++ whole m w ∷ []) = whole_after before m w _ _ is.instances put in (
      valid_whole before m w _ _ is.instances put,
      record {
        instances = after;
        memory = same_memory ∙ (is.memory ∙ sym (first_by_push memory_of before (whole m w) ∙ first_some_none (first_by memory_of before)));
        memory_recorded = ap memory_in (sym after) ∙ (memory_whole _ _ m w put ∙ (ap memory_in is.instances ∙ (is.memory_recorded ∙ sym same_memory)));
        types = λ a f. ap (λ z. types_in (record { instances = new.instances; memory = new.memory; adapter_types = z }) a f) same_types
            ∙ (is.types a f ∙ sym (first_by_push (adapter_type_of a f) before (whole m w) ∙ first_some_none (first_by (adapter_type_of a f) before)));
      },
    )

pub refused_all : (before : List Entry) (m : List ℕ) (w : WhichView) (old : Recorder) (f : ValidateFault) → IsRecorderOf old before
    → IsWholeFault (map instance_entry old.instances.entries) m w f → IsRefusedAfter before (whole m w) f
refused_all before m w old f is h = refused_whole before m w _ f is.instances h
