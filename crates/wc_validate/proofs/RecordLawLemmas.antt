-- What is recorded of a module are its imports, and what they name is there.
use Rattle.std.proofs.Common.{◌≡◌, ℕ, Bool, true, false, cond, List, [], ◌∷◌, ◌++◌, map, Option, Some, None, refl, sym, ap, subst, ◌∙◌}
use Rattle.std.specs.List.{All, Contains, cons_option, filter_map, slice_get}
use Rattle.std.specs.Str.{bytes_eq}
use Rattle.std.proofs.lemmas.List.Elements.{All-append, All-cons, All-head, All-map, All-nil, All-tail}
use Rattle.wc_read.specs.Imports.{ImportValue}
use Rattle.wc_maps.proofs.ListLemmas.{contains_head, contains_tail}
use Rattle.wc_resolve.specs.Views.{KeyView, WorldView}
use Rattle.wc_resolve.specs.Kinds.{ResolveView}
use Rattle.wc_adapters.specs.Adapters.{WhichView}
use Rattle.wc_encoder.specs.EncoderParts.{EncoderView, IsWorldOf}
use Rattle.wc_names.specs.Exports.{CoreExport, is_export}
use Rattle.wc_names.specs.ExportViews.{ExportView}
use Rattle.wc_names.specs.Imports.{NameScope}
use Rattle.wc_names.specs.Laws.{ExportsInRange, IsExportIn, IsImportIn}
use Rattle.wc_names.specs.Views.{ImportView}
use Rattle.wc_validate.specs.Imports.Entries.{Entry, single, whole, by_modules, entry_module, instance_record, single_of, whole_of}
use Rattle.wc_texts.specs.Names.{first_occurrences}
use Rattle.wc_validate.specs.Exports.Map.{ExportRecord}
use Rattle.wc_validate.specs.Imports.Map.{imports_in, singles_of}
use Rattle.wc_validate.specs.Imports.Record.{ImportScope, AreEntries, IsEntry}
use Rattle.wc_validate.specs.Laws.{EntriesInRange, IsRecordedImport, RecordedExportsInRange, RecordsAreImports, RecordsInRange}
use Rattle.wc_validate.specs.Exports.Record.{AreExports, IsExportEntry, core_exports, entry_of}
use Rattle.wc_validate.specs.NameScope.{HasItsWorld}
use Rattle.wc_validate.specs.Validate.{IsRecordOf, IsImportScopeFor, IsNameScopeOf, ValidationInput, ModuleRecord, encoder_scope}
use Rattle.wc_validate.proofs.ContainedLemmas.{some_same}
use Rattle.wc_validate.proofs.InstanceLemmas.{same}

-- a fact of single imports, of an entry
abbrev pub OnSingle : (List ℕ → List ℕ → ImportView → Type 0) → Entry → Type 0
OnSingle P (single m name v) = P m name v
OnSingle P (whole m which) = Unit {0}

-- entries in their turn
pub entries_all : (s : ImportScope) (P : Entry → Type 0) (before : List Entry) (is : List ImportValue) (xs : List Entry)
    → ((i : ImportValue) (x : Entry) → Contains is i → IsEntry s i x → P x) → AreEntries s before is xs → All P xs
entries_all s P before [] xs each h = subst (All P) (sym h) (All-nil P)
entries_all s P before (i ∷ is) [] each h = absurd h
entries_all s P before (i ∷ is) (x ∷ xs) each h =
    All-cons P x xs (each i x (contains_head is i) h.0) (entries_all s P (before ++ x ∷ []) is xs (λ j y at e. each j y (contains_tail i is j at) e) h.2)

module _ (P : List ℕ → List ℕ → ImportView → Type 0) where
  abbrev pub OnImport : List ℕ × (List ℕ × ImportView) → Type 0
  OnImport x = P x.0 x.1.0 x.1.1

  more_of : (m k name : List ℕ) (v : ImportView) (ys : List (List ℕ × ImportView)) (b : Bool) → bytes_eq m k ≡ b → P k name v
      → All (λ (y : List ℕ × ImportView). P m y.0 y.1) ys
      → All (λ (y : List ℕ × ImportView). P m y.0 y.1) (cons_option (cond b (Some (name, v)) None) ys)
  more_of m k name v ys true is p rest = All-cons (λ (y : List ℕ × ImportView). P m y.0 y.1) (name, v) ys (subst (λ z. P z name v) (sym (same m k is)) p) rest
  more_of m k name v ys false is p rest = rest

  singles_all : (m : List ℕ) (xs : List Entry) → All (OnSingle P) xs → All (λ (y : List ℕ × ImportView). P m y.0 y.1) (filter_map (single_of m) xs)
  singles_all m [] h = All-nil (λ (y : List ℕ × ImportView). P m y.0 y.1)
  singles_all m (single k name v ∷ xs) h =
      more_of m k name v (filter_map (single_of m) xs) (bytes_eq m k) refl (All-head (OnSingle P) (single k name v) xs h)
      (singles_all m xs (All-tail (OnSingle P) (single k name v) xs h))
  singles_all m (whole k which ∷ xs) h = singles_all m xs (All-tail (OnSingle P) (whole k which) xs h)

  of_module : (xs : List Entry) (m : List ℕ) (wholes : List WhichView) → All (OnSingle P) xs → All OnImport (singles_of (m, instance_record xs m wholes))
  of_module xs m [] h = All-map OnImport (λ (y : List ℕ × ImportView). (m, y)) (filter_map (single_of m) xs) (singles_all m xs h)
  of_module xs m (which ∷ wholes) h = All-nil OnImport

  of_modules : (xs : List Entry) (ms : List (List ℕ)) → All (OnSingle P) xs
      → All OnImport (imports_in (map (λ m. (m, instance_record xs m (filter_map (whole_of m) xs))) ms))
  of_modules xs [] h = All-nil OnImport
  of_modules xs (m ∷ ms) h =
      All-append OnImport (singles_of (m, instance_record xs m (filter_map (whole_of m) xs)))
      (imports_in (map (λ m. (m, instance_record xs m (filter_map (whole_of m) xs))) ms))
      (of_module xs m (filter_map (whole_of m) xs) h) (of_modules xs ms h)

  -- a fact of the single imports among entries, of the same by modules
  pub by_modules_all : (xs : List Entry) → All (OnSingle P) xs → All OnImport (imports_in (by_modules xs))
  by_modules_all xs h = of_modules xs (first_occurrences (map entry_module xs)) h

recorded : (s : ImportScope) (is : List ImportValue) (i : ImportValue) (x : Entry) → Contains is i → IsEntry s i x
    → OnSingle (λ m name v. IsRecordedImport s is (m, (name, v))) x
recorded s is i (single m name v) at e = (i, at, e)
recorded s is i (whole m which) at e = tt

import_scope_at : (e : EncoderView) (j : ValidationInput) (bytes : List ℕ) (r : ModuleRecord) → j.encoder ≡ e → (h : IsRecordOf j bytes r)
    → IsImportScopeFor e j.renames j.library (h.value).types h.imports.0
import_scope_at e j bytes r at h = subst (λ z. IsImportScopeFor z j.renames j.library (h.value).types h.imports.0) at h.imports.1

pub records_are_imports : (e : EncoderView) → RecordsAreImports e
records_are_imports e j bytes r at h =
    let is = h.imports in
    let each = entries_all is.0 (OnSingle (λ m name v. IsRecordedImport is.0 (h.value).imports (m, (name, v)))) [] (h.value).imports is.2.0
    (λ i x. recorded is.0 (h.value).imports i x) is.2.1 in (
      h.value,
      h.spelled,
      is.0,
      import_scope_at e j bytes r at h,
      subst (λ z. All (IsRecordedImport is.0 (h.value).imports) (imports_in z)) (sym is.2.2)
          (by_modules_all (λ m name v. IsRecordedImport is.0 (h.value).imports (m, (name, v))) is.2.0 each),
    )

module _ (e : EncoderView) (w : WorldView) (s : ImportScope) (world : IsWorldOf e w) (name_scope : s.name_scope ≡ encoder_scope e w)
    (range : EntriesInRange e.resolve) where
  has_its_world : HasItsWorld s.name_scope
  has_its_world = (e.world, subst (λ (z : NameScope). slice_get z.resolve.worlds e.world ≡ Some z.world) (sym name_scope) world)

  entry_there : (i : ImportValue) (x : Entry) → IsEntry s i x → OnSingle (λ m name v. IsImportIn e.resolve w v) x
  entry_there i (single m name v) h =
      subst (λ z. IsImportIn e.resolve z v) (ap (λ (z : NameScope). z.world) name_scope)
      (range s i m name v (ap (λ (z : NameScope). z.resolve) name_scope) has_its_world h)
  entry_there i (whole m which) h = tt

pub records_in : (e : EncoderView) → EntriesInRange e.resolve → RecordsInRange e
records_in e range j bytes r w at h world =
    let is = h.imports in
    let has = (import_scope_at e j bytes r at h).has_name_scope in
    let name_scope = subst (λ z. (is.0).name_scope ≡ encoder_scope e z) (some_same (sym has.1 ∙ world)) has.2 in
    let each = entries_all is.0 (OnSingle (λ m name v. IsImportIn e.resolve w v)) [] (h.value).imports is.2.0
    (λ i x there is_entry. entry_there e w h.imports.0 world name_scope range i x is_entry) is.2.1 in
    subst (λ z. All (λ (x : List ℕ × (List ℕ × ImportView)). IsImportIn e.resolve w x.1.1) (imports_in z)) (sym is.2.2)
    (by_modules_all (λ m name v. IsImportIn e.resolve w v) is.2.0 each)

-- what the exports are for that are recorded by a scope
module _ (r : ResolveView) (range : ExportsInRange r) (s : NameScope) (keys : List KeyView) (same : s.resolve ≡ r) (index : ℕ)
    (at : slice_get r.worlds index ≡ Some s.world) where
  abbrev pub IsExportThere : List ℕ × ExportView → Type 0
  IsExportThere x = IsExportIn r s.world x.1

  export_there : (x : CoreExport) (o : Option ExportView) → IsExportEntry s keys x o → All IsExportThere (entry_of x.name o)
  unfolding IsExportEntry
  export_there x None h = All-nil IsExportThere
  export_there x (Some v) h = All-cons IsExportThere (x.name, v) [] (range s keys x index (is_export v h.0) same at h.1) (All-nil IsExportThere)

  exports_there : (xs : List CoreExport) (recorded : ExportRecord) → AreExports s keys xs recorded → All IsExportThere recorded
  exports_there [] recorded h = subst (All IsExportThere) (sym h) (All-nil IsExportThere)
  exports_there (x ∷ xs) recorded h =
      subst (All IsExportThere) (sym h.4) (All-append IsExportThere (entry_of x.name h.0) h.1 (export_there x h.0 h.2) (exports_there xs h.1 h.3))

pub exports_in : (e : EncoderView) → ExportsInRange e.resolve → RecordedExportsInRange e
exports_in e range j bytes r w at h world =
    let xs = h.exports in
    let has : IsNameScopeOf e xs.0 = subst (λ z. IsNameScopeOf z xs.0) at xs.1 in
    let name_scope = subst (λ z. xs.0 ≡ encoder_scope e z) (some_same (sym has.1 ∙ world)) has.2 in
    let resolve : (xs.0).resolve ≡ e.resolve = ap (λ (z : NameScope). z.resolve) name_scope in
    let here : (xs.0).world ≡ w = ap (λ (z : NameScope). z.world) name_scope in
    subst (λ z. All (λ (x : List ℕ × ExportView). IsExportIn e.resolve z x.1) r.exports) here
    (exports_there e.resolve range xs.0 j.keys resolve e.world (world ∙ ap Some (sym here)) (core_exports (h.value) (h.value).exports) r.exports xs.2)
