-- Where validation stops: the first import or export that is refused, and what is recorded before it.
use Rattle.std.proofs.Common.{◌≡◌, ◌≢◌, ℕ, zero, suc, ◌<◌, ◌≤◌, ◌+◌, List, [], ◌∷◌, ◌++◌, length, map, take, get_or, Option, Some, None, option_copied, Err, String, string_bytes, refl, sym, ap, subst, ◌∙◌, append_assoc, append-nil, inl, inr}
use Rattle.std.specs.List.{cons_option, filter_map, slice_get}
use Rattle.std.specs.Option.{option_map}
use Rattle.std.specs.declared.alloc.Global.{Global}
use Rattle.wc_validate.specs.declared.refused.RefusedImport.{RefusedImport}
use Rattle.std.proofs.lemmas.List.{map-append, take-map, take_all, take_more}
use Rattle.std.proofs.lemmas.Option.{slice_get-get_or, slice_get-map}
use Rattle.wc_read.specs.declared.core_module.Module.{Module}
use Rattle.wc_read.specs.declared.exports.Export.{Export as RawExport}
use Rattle.wc_read.specs.declared.types.Import.{Import}
use Rattle.wc_read.specs.Exports.{ExportValue, export_value}
use Rattle.wc_read.specs.Imports.{ImportValue, import_value, import_values}
use Rattle.wc_read.specs.Modules.{ModuleValue, module_value}
use Rattle.wc_read.specs.declared.types.FuncType.{FuncType}
use Rattle.wc_read.specs.declared.types.ImportType.TheVariants as imported
use Rattle.wc_read.specs.Types.{FuncTypeValue, func_type_value}
use Rattle.wc_resolve.specs.Views.{KeyView, key_view}
use Rattle.wc_names.specs.Exports.{ClassifiedExport, CoreExport}
use Rattle.wc_names.specs.Imports.{Classified, CoreImport, ExternType, NameScope, func_type}
use Rattle.wc_names.specs.Meanings.{means}
use Rattle.wc_names.specs.Views.{ImportView}
use Rattle.wc_validate.specs.declared.exports.classify.ExportContext.{ExportContext}
use Rattle.wc_validate.specs.declared.validate.ValidationInput.{ValidationInput as CodeInput}
use Rattle.wc_validate.specs.declared.fault.ValidateFault.{ValidateFault}
use Rattle.wc_validate.specs.declared.fault.ValidateFault.TheVariants.{Memory, Read, NotAModule, AdapterModuleDidNotExport, NotAFunction, SignatureMismatch, NoRootImport, RootNotFunction, BadSyntax, UnknownInterface, UnknownIntrinsic, MissingFunction, NoSuchExport, TypedReference, WholeDiffers, Mixed, SeveralMemoryImports, DuplicateImport, AdapterTypesDiffer}
use Rattle.wc_validate.specs.declared.imports.record.ImportContext.{ImportContext}
use Rattle.wc_validate.specs.declared.imports.recorder.Recorder.{Recorder}
use Rattle.wc_validate.specs.declared.name_fault.NameFault.{NameFault}
use Rattle.wc_validate.specs.declared.name_fault.NameFault.TheVariants as naming
use Rattle.wc_validate.specs.declared.place.Subject.{Subject}
use Rattle.wc_validate.specs.Exports.Contexts.{core_export}
use Rattle.wc_validate.specs.Exports.Map.{ExportRecord}
use Rattle.wc_validate.specs.Exports.Record.{AreExports, HasMismatch, IsExportsFault, IsMismatched, core_exports, exports_in, item_type, typed_export}
use Rattle.wc_validate.specs.Fault.{import_fault_kind}
use Rattle.wc_validate.specs.Classifications.{IsClassification}
use Rattle.wc_validate.specs.Imports.Classify.{IsClassified, IsNameFault}
use Rattle.wc_validate.specs.Imports.Entries.{Entry, by_modules, single, whole}
use Rattle.wc_validate.specs.Imports.Record.{ImportScope, AreEntries, IsEntry, IsEntryCause, IsFaultOfImport, IsValidAfter, entry_faults, extern_type}
use Rattle.wc_validate.specs.NameScope.{name_scope_of}
use Rattle.wc_validate.specs.Explain.{IsExportPlace, IsFirstMismatched, IsImportPlace, IsModulePlace, IsPlaceOfImport, DifferenceView, PlaceView, difference_of, an_export, an_import, subject_view}
use Rattle.wc_validate.specs.Private.Explain.{AreMismatchedTypes, HasRecordedImports, IsExportStopAt, IsImportRefused, IsPlaceIn, IsStopAt, IsStopIn}
use Rattle.wc_validate.specs.Private.ValidationInputs.{validation_input_of}
use Rattle.wc_validate.specs.Refused.{IsMemoryRefusal, IsRefusedAt, RefusedModule}
use Rattle.wc_validate.specs.Private.Exports.Classify.{IsExportClassified}
use Rattle.wc_validate.specs.Private.Imports.Contexts.{AreRecorded, AreRecordedIn, HasLibrary, IsImportRecorded, IsImportRefusal, import_scope}
use Rattle.wc_validate.specs.Validate.{IsImportScopeFor, IsNameScopeOf, ValidationInput}
use Rattle.wc_validate.proofs.ContainedLemmas.{some_same}
use Rattle.wc_names.proofs.SearchLemmas.{first_kind}
use Rattle.wc_validate.proofs.ExportRecordLemmas.{ExportsPassed}
use Rattle.wc_validate.proofs.RefusedLemmas.{memory_at, refused_as}

-- an entry after the others
entries_end : (s : ImportScope) (b : List Entry) (is : List ImportValue) (xs : List Entry) (i : ImportValue) (x : Entry) → AreEntries s b is xs
    → IsEntry s i x → IsValidAfter (b ++ xs) x → AreEntries s b (is ++ i ∷ []) (xs ++ x ∷ [])
entries_end s b [] xs i x h e v =
    subst (λ z. AreEntries s b (i ∷ []) (z ++ x ∷ [])) (sym h)
    (e, subst (λ z. IsValidAfter z x) (append-nil b) (subst (λ z. IsValidAfter (b ++ z) x) h v), refl)
entries_end s b (j ∷ is) [] i x h e v = absurd h
entries_end s b (j ∷ is) (y ∷ xs) i x h e v =
    (h.0, h.1, entries_end s (b ++ y ∷ []) is xs i x h.2 e (subst (λ z. IsValidAfter z x) (sym (append_assoc b (y ∷ []) xs)) v))

pub recorded_more : (s : ImportScope) (imports : List Import) (index : ℕ) (d : Import) (old new : Recorder) → index < length imports
    → (p : AreRecorded s (import_values (take index imports)) old) → IsImportRecorded s p.0 (import_value (get_or imports index d)) new
    → AreRecorded s (import_values (take (index + 1) imports)) new
recorded_more s imports index d old new below p h =
    let more = ap import_values (take_more imports index d below) ∙ map-append import_value (take index imports) (get_or imports index d ∷ []) in
    subst (λ z. AreRecorded s z new) (sym more)
    (p.0 ++ h.0 ∷ [], entries_end s [] (import_values (take index imports)) p.0 (import_value (get_or imports index d)) h.0 p.1 h.1 h.2.0, h.2.1)

pub recorded_all : (s : ImportScope) (imports : List Import) (index : ℕ) (r : Recorder) → length imports ≤ index
    → AreRecorded s (import_values (take index imports)) r → AreRecorded s (import_values imports) r
recorded_all s imports index r end p = subst (λ z. AreRecorded s (import_values z) r) (take_all index imports end) p

-- the first that is refused
value_there : (imports : List Import) (index : ℕ) (d : Import) → index < length imports
    → slice_get (import_values imports) index ≡ Some (import_value (get_or imports index d))
value_there imports index d below = slice_get-map import_value imports index ∙ ap (option_map import_value) (slice_get-get_or imports index d below)

pub stop_at : (s : ImportScope) (imports : List Import) (index : ℕ) (d : Import) (r : Recorder) (f : ValidateFault) → index < length imports
    → (types : Option DifferenceView) → (p : AreRecorded s (import_values (take index imports)) r)
    → IsImportRefusal s p.0 (import_value (get_or imports index d)) f types → IsStopAt s (import_values imports) index f types
stop_at s imports index d r Memory below types p h = tt
stop_at s imports index d r f below types p h = (
  import_value (get_or imports index d),
  p.0,
  record {
    there = value_there imports index d below;
    recorded = subst (λ z. AreEntries s [] z p.0) (sym (take-map import_value index imports)) p.1;
    refused = h.0;
  },
  h.1,
)

-- the faults that carry nothing and are of a part of a module, as those of imports are
abbrev pub IsPlainFault : ValidateFault → Type 0
IsPlainFault Memory = ⊥
IsPlainFault (Read f) = ⊥
IsPlainFault NotAModule = ⊥
IsPlainFault (AdapterModuleDidNotExport e) = ⊥
IsPlainFault f = Unit {0}

cause_of_import : (before : List Entry) (x : Entry) (k : ValidateFault) → IsEntryCause before x k → IsPlainFault k
cause_of_import before (whole m which) WholeDiffers h = tt
cause_of_import before (whole m which) Mixed h = tt
cause_of_import before (whole m which) f h = absurd h
cause_of_import before (single m name i) SeveralMemoryImports h = tt
cause_of_import before (single m name i) Mixed h = tt
cause_of_import before (single m name i) DuplicateImport h = tt
cause_of_import before (single m name i) AdapterTypesDiffer h = tt
cause_of_import before (single m name i) f h = absurd h

name_of_import : (e : NameScope) (a : CoreImport) (f : ValidateFault) → IsNameFault e a (import_fault_kind f) → IsPlainFault f
name_of_import e a NotAFunction h = tt
name_of_import e a SignatureMismatch h = tt
name_of_import e a NoRootImport h = tt
name_of_import e a RootNotFunction h = tt
name_of_import e a BadSyntax h = tt
name_of_import e a UnknownInterface h = tt
name_of_import e a UnknownIntrinsic h = tt
name_of_import e a MissingFunction h = tt
name_of_import e a NoSuchExport h = tt
name_of_import e a TypedReference h = tt
name_of_import e a f h = absurd h

pub fault_of_import : (s : ImportScope) (before : List Entry) (i : ImportValue) (f : ValidateFault) → IsFaultOfImport s before i f → IsPlainFault f
fault_of_import s before i f (inl h) = name_of_import s.name_scope h.1 f h.3
fault_of_import s before i f (inr h) =
    let kind = first_kind (λ k (g : ValidateFault). IsEntryCause before h.0 k × (g ≡ k)) entry_faults f h.2 in
    subst IsPlainFault (sym kind.1.1) (cause_of_import before h.0 kind.0 kind.1.0)

-- an import as the place of the fault that it is refused with
pub place_at : (s : ImportScope) (imports : List Import) (index : ℕ) (d : Import) (subject : Subject) (types : Option DifferenceView) (f : ValidateFault)
    → index < length imports → IsStopAt s (import_values imports) index f types → f ≢ Memory
    → subject_view subject ≡ an_import (get_or imports index d).module.now (get_or imports index d).name.now index
    → IsImportPlace s (import_values imports) f (record { subject = subject_view subject; types = types })
place_at s imports index d subject types Memory below h real is = absurd (real refl)
place_at s imports index d subject types f below h real is =
    let value : h.0 ≡ import_value (get_or imports index d) = some_same (sym h.2.there ∙ value_there imports index d below) in
    record {
      index = index;
      value = h.0;
      before = h.1;
      first = h.2;
      subject = is ∙ ap (λ (z : ImportValue). an_import z.module_name z.name index) (sym value);
      types = h.3;
    }

-- the types of an import that is refused for its type
type_at : (types : List FuncType) (index : ℕ) (d : FuncType) (ty : ExternType) → index < length types
    → option_map func_type (slice_get (map func_type_value types) index) ≡ Some ty → ty ≡ func_type (func_type_value (get_or types index d))
type_at types index d ty below is =
    sym (some_same (sym (ap (option_map func_type) (slice_get-map func_type_value types index ∙ ap (option_map func_type_value) (slice_get-get_or types index d below)))
    ∙ is))

differ_as : (ty : ExternType) (wanted found : FuncTypeValue) → ty ≡ func_type found → ty ≢ func_type wanted → found ≢ wanted
differ_as ty wanted found is differ same = differ (is ∙ ap func_type same)

pub mismatch_of : (e : NameScope) (a : CoreImport) (wanted : FuncType) → IsClassified e a (Err (naming.SignatureMismatch wanted))
    → (v : ImportView) × Classified e a (means v (Some (func_type_value wanted))) × (a.ty ≢ func_type (func_type_value wanted))
unfolding IsClassified
mismatch_of e a wanted h = h

pub mismatched_at : (c : ImportContext) (i : Import) (index : ℕ) (d wanted found : FuncType) → i.ty ≡ imported.Func index → index < length c.types.now
    → func_type_value found ≡ func_type_value (get_or c.types.now index d) → AreMismatchedTypes c i wanted (record { wanted = wanted; found = found })
mismatched_at c i index d wanted found is below same = λ library before m.
    let typed : option_map func_type (slice_get (map func_type_value c.types.now) index) ≡ Some (m.0).ty
    = subst (λ z. extern_type (map func_type_value c.types.now) z ≡ Some (m.0).ty) is m.1.2 in
    let found_is : (m.0).ty ≡ func_type (func_type_value found) = type_at c.types.now index d (m.0).ty below typed ∙ ap func_type (sym same) in
    let n = mismatch_of (name_scope_of c.names) m.0 wanted m.2 in
    (m.0, n.0, m.1, n.1, found_is, differ_as (m.0).ty (func_type_value wanted) (func_type_value found) found_is n.2)

module _ (j : ValidationInput) (m : Module) (c : ImportContext) (imports : List Import) (names : IsNameScopeOf j.encoder (name_scope_of c.names))
    (renames : option_copied c.renames ≡ j.renames) (types : c.types.now ≡ m.types.items) (library : HasLibrary c j.library) (same : imports ≡ m.imports.items) where
  scope_for : IsImportScopeFor j.encoder j.renames j.library (module_value m).types (import_scope c j.library)
  scope_for = record { has_name_scope = names; has_library = refl; has_renames = renames; has_types = ap (map func_type_value) types }

  pub import_refused : (x : RefusedModule) (refused : RefusedImport) → IsStopIn c imports refused → IsImportRefused imports refused x
      → IsRefusedAt (IsPlaceOfImport j (module_value m)) x
  import_refused x refused stop h =
      refused_as (IsImportPlace (import_scope c j.library) (import_values imports)) (IsPlaceOfImport j (module_value m)) x
      (λ f p k. (import_scope c j.library, scope_for, subst (λ z. IsImportPlace (import_scope c j.library) (import_values z) f p) same k))
      (h.1 (import_scope c j.library) (stop j.library library))

  pub imports_recorded : (r : Recorder) → AreRecordedIn c j.library imports r → HasRecordedImports j (module_value m)
  imports_recorded r p = (
    by_modules p.0,
    (
      import_scope c j.library,
      scope_for,
      (p.0, subst (λ z. AreEntries (import_scope c j.library) [] (import_values z) p.0) same p.1, refl),
    ),
  )

-- exports
module _ (e : NameScope) (keys : List KeyView) (m : ModuleValue) (es : List RawExport) (i : ℕ) (d : RawExport) (ty : ExternType) (below : i < length es)
    (typed : item_type m (export_value (get_or es i d)).kind (export_value (get_or es i d)).index ≡ Some ty) (recorded : ExportRecord)
    (p : ExportsPassed e keys m es i recorded) where
  pub exports_stop : (f : NameFault)
      → IsExportClassified (ClassifiedExport e keys (core_export (export_value (get_or es i d)).name ty)) ty (Err f)
      → IsExportStopAt e keys m (map export_value es) i f
  unfolding IsClassification IsMismatched
  exports_stop naming.Memory h = tt
  exports_stop (naming.SignatureMismatch wanted) h =
      let x = export_value (get_or es i d) in (
        core_export x.name ty,
        record {
          value = x;
          there = slice_get-map export_value es i ∙ ap (option_map export_value) (slice_get-get_or es i d below);
          typed = ap (option_map (core_export x.name)) typed;
          before = recorded;
          recorded = subst (λ z. AreExports e keys (core_exports m z) recorded) (sym (take-map export_value i es)) p.before;
          mismatched = (h.0, func_type_value wanted, h.1, h.2);
        },
        h,
      )
  exports_stop naming.NotAFunction h = absurd h
  exports_stop naming.NoRootImport h = absurd h
  exports_stop naming.RootNotFunction h = absurd h
  exports_stop naming.BadSyntax h = absurd h
  exports_stop naming.UnknownInterface h = absurd h
  exports_stop naming.UnknownIntrinsic h = absurd h
  exports_stop naming.MissingFunction h = absurd h
  exports_stop naming.NoSuchExport h = absurd h
  exports_stop naming.TypedReference h = absurd h

-- an export as the place of a fault
core_of : (m : ModuleValue) (v : ExportValue) (x : CoreExport) (ty : ExternType) → item_type m v.kind v.index ≡ Some ty → typed_export m v ≡ Some x
    → core_export v.name ty ≡ x
core_of m v x ty typed is = some_same (sym (ap (option_map (core_export v.name)) typed) ∙ is)

pub export_at : (e : NameScope) (keys : List KeyView) (m : ModuleValue) (es : List RawExport) (i : ℕ) (d : RawExport) (name : String Global)
    (wanted found ty : FuncType) → i < length es → IsExportStopAt e keys m (map export_value es) i (naming.SignatureMismatch wanted)
    → string_bytes name ≡ (export_value (get_or es i d)).name
    → item_type m (export_value (get_or es i d)).kind (export_value (get_or es i d)).index ≡ Some (func_type (func_type_value ty))
    → func_type_value found ≡ func_type_value ty
    → IsExportPlace e keys m (map export_value es) SignatureMismatch
    (record { subject = an_export (string_bytes name); types = Some (difference_of (func_type_value wanted) (func_type_value found)) })
export_at e keys m es i d name wanted found ty below stop called typed copied =
    let there = slice_get-map export_value es i ∙ ap (option_map export_value) (slice_get-get_or es i d below) in
    let value : stop.1.value ≡ export_value (get_or es i d) = some_same (sym stop.1.there ∙ there) in
    let core = core_of m (export_value (get_or es i d)) stop.0 (func_type (func_type_value ty)) typed
    (subst (λ z. typed_export m z ≡ Some stop.0) value stop.1.typed) in
    let found_is : (stop.0).ty ≡ func_type (func_type_value found) = ap (λ (z : CoreExport). z.ty) (sym core) ∙ ap func_type (sym copied) in
    record {
      is_mismatch = refl;
      index = i;
      core_export = stop.0;
      first = stop.1;
      subject = ap an_export (called ∙ ap (λ (z : CoreExport). z.name) core);
      types = (stop.2.0, stop.2.1, found_is, differ_as (stop.0).ty (func_type_value wanted) (func_type_value found) found_is stop.2.2);
    }

-- which exports are refused: that of an export whose type is another, or for a failed allocation
past_export : (e : NameScope) (keys : List KeyView) (o : Option CoreExport) (xs ys : List CoreExport) (before : ExportRecord)
    → AreExports e keys (cons_option o xs) before → ((rest : ExportRecord) → AreExports e keys xs rest → HasMismatch e keys ys)
    → HasMismatch e keys (cons_option o ys)
past_export e keys None xs ys before h k = k before h
past_export e keys (Some x) xs ys before h k = inr (h.0, h.2, k h.1 h.3)

pub mismatch_after : (e : NameScope) (keys : List KeyView) (m : ModuleValue) (es : List ExportValue) (n : ℕ) (v : ExportValue) (x : CoreExport)
    (before : ExportRecord) → slice_get es n ≡ Some v → typed_export m v ≡ Some x → AreExports e keys (core_exports m (take n es)) before
    → IsMismatched e keys x → HasMismatch e keys (core_exports m es)
unfolding core_exports
mismatch_after e keys m [] n v x before there typed h k = absurd (let bad : ⊥ = cc there in bad)
mismatch_after e keys m (w ∷ ws) zero v x before there typed h k =
    subst (λ o. HasMismatch e keys (cons_option o (filter_map (typed_export m) ws))) (sym (ap (typed_export m) (some_same there) ∙ typed)) (inl k)
mismatch_after e keys m (w ∷ ws) (suc n) v x before there typed h k =
    past_export e keys (typed_export m w) (filter_map (typed_export m) (take n ws)) (filter_map (typed_export m) ws) before h
    (λ rest more. mismatch_after e keys m ws n v x rest there typed more k)

pub first_mismatch : (e : NameScope) (keys : List KeyView) (m : ModuleValue) (es : List ExportValue) (n : ℕ) (x : CoreExport)
    → IsFirstMismatched e keys m es n x → HasMismatch e keys (core_exports m es)
first_mismatch e keys m es n x h = mismatch_after e keys m es n h.value x h.before h.there h.typed h.recorded h.mismatched

-- a failed allocation
pub memory_refused : (e : NameScope) (keys : List KeyView) (m : ModuleValue) (es : List RawExport) (x : RefusedModule) → IsMemoryRefusal x
    → IsExportsFault e keys (core_exports m (map export_value es)) x.fault × IsRefusedAt (IsExportPlace e keys m (map export_value es)) x
memory_refused e keys m es x h = (
  subst (IsExportsFault e keys (core_exports m (map export_value es))) (sym h.0) tt,
  memory_at (IsExportPlace e keys m (map export_value es)) x h,
)

-- the place of a fault of exports, by the context that they are recorded by
pub placed_exports : (i : CodeInput) (m : Module) (c : ExportContext) → HasRecordedImports (validation_input_of i) (module_value m)
    → IsNameScopeOf i.encoder.now (name_scope_of c.names) → c.standard.keys ≡ map key_view i.required.keys.now.keys
    → (f : ValidateFault) (p : PlaceView) → IsPlaceIn c i.required m f p → IsModulePlace (validation_input_of i) (module_value m) f p
placed_exports i m c imports names keys f p (inl h) =
    inr (inl (
      imports.0,
      imports.1,
      name_scope_of c.names,
      names,
      subst (λ z. IsExportPlace (name_scope_of c.names) z (module_value m) (map export_value m.exports.items) f p) keys h,
    ))
placed_exports i m c imports names keys f p (inr h) =
    inr (inr (
      imports.0,
      imports.1,
      name_scope_of c.names,
      names,
      h.0,
      subst (λ z. AreExports (name_scope_of c.names) z (exports_in m m.exports.items) h.0) keys h.1,
      h.2,
    ))
