-- A module that restricts one of which there is a record.
use Rattle.std.proofs.Common.{◌≡◌, ◌≢◌, ◌⊎◌, ◌↔◌, ℕ, List, [], All, Contains, Option, Some, None, refl, sym, ap, subst, ◌∙◌, inl, inr}
use Rattle.std.specs.Option.{option_map}
use Rattle.std.proofs.lemmas.List.Elements.{All-contains}
use Rattle.wc_read.specs.Exports.{ExportValue}
use Rattle.wc_read.specs.Imports.{ImportValue}
use Rattle.wc_read.specs.Modules.{IsModule, ModuleValue}
use Rattle.wc_read.specs.Types.{FuncTypeValue}
use Rattle.wc_dedupe.specs.Renaming.{RenameView}
use Rattle.wc_resolve.specs.Views.{KeyView}
use Rattle.wc_adapters.specs.Adapters.{LibraryView}
use Rattle.wc_encoder.specs.EncoderParts.{EncoderView}
use Rattle.wc_names.specs.SameButIndices.{AreSameButIndices, without_indices}
use Rattle.wc_names.specs.Exports.{CoreExport}
use Rattle.wc_names.specs.ExportViews.{ExportView}
use Rattle.wc_names.specs.Imports.{ExternType, NameScope}
use Rattle.wc_names.specs.Laws.{ExportsUnique, MeaningsUnique}
use Rattle.wc_names.specs.Views.{ImportView}
use Rattle.wc_validate.specs.declared.fault.ValidateFault.{ValidateFault}
use Rattle.wc_validate.specs.declared.fault.ValidateFault.TheVariants.{DuplicateImport, Memory}
use Rattle.wc_validate.specs.Exports.Contexts.{core_export}
use Rattle.wc_validate.specs.Exports.Map.{ExportRecord}
use Rattle.wc_validate.specs.Imports.Map.{imports_in}
use Rattle.wc_validate.specs.Imports.Record.{AreEntries, ImportScope, IsImportFault}
use Rattle.wc_validate.specs.Exports.Record.{AreExports, IsExportsFault, core_exports, item_type, typed_export}
use Rattle.wc_validate.specs.Requirements.{IsUnmetFault, requirements}
use Rattle.wc_validate.specs.Restriction.{AreNeeded, HasCollision, IsKeptExport, IsModuleRecord, IsOldExport, IsRestrictedImport, IsRestriction, IsSameExport, RestrictionsRecorded, RestrictionsValid}
use Rattle.wc_validate.specs.Validate.{IsExportsCause, IsImportsCause, IsImportScopeFor, IsNameScopeOf, ValidationInput, ModuleRecord}
use Rattle.wc_validate.proofs.DistinctNameLemmas.{HaveDistinctNames, distinct_kept, distinct_unmapped}
use Rattle.wc_validate.proofs.ContainedLemmas.{kept_from, kept_there, mapped_from, none_some, some_same}
use Rattle.wc_validate.proofs.LawLemmas.{one_name_scope}
use Rattle.wc_validate.proofs.RestrictedExportLemmas.{HasSameButIndices, back, exports_valid, forth}
use Rattle.wc_validate.proofs.RestrictedImportLemmas.{imports_refused, name_scope_of}
use Rattle.wc_validate.proofs.RestrictedRecordLemmas.{imports_restricted}

-- the exports of a module have names that occur once
named_at : (e : ExportValue) (o : Option ExternType) (x : CoreExport) → option_map (core_export e.name) o ≡ Some x → x.name ≡ e.name
named_at e None x h = absurd (none_some x h)
named_at e (Some ty) x h = ap (λ (z : CoreExport). z.name) (sym (some_same h))

exports_distinct : (m : ModuleValue) → IsModule m → HaveDistinctNames (λ (x : CoreExport). x.name) (core_exports m m.exports)
unfolding core_exports
exports_distinct m h =
    distinct_kept (typed_export m) (λ (e : ExportValue). e.name) (λ (x : CoreExport). x.name) (λ e x is. named_at e (item_type m e.kind e.index) x is) m.exports
    (distinct_unmapped (λ (e : ExportValue). e.name) m.exports h.distinct)

-- exports that are the same have one name, and types that are the same but for type indices
same_typed : (v m : ModuleValue) (x y : ExportValue) (z : CoreExport) → IsSameExport v m x y → typed_export m y ≡ Some z → (w : CoreExport)
    × (typed_export v x ≡ Some w) × (w.name ≡ z.name) × AreSameButIndices w.ty z.ty
same_typed v m x y z same h =
    let of = mapped_from (core_export y.name) (item_type m y.kind y.index) z h in
    let was = mapped_from without_indices (item_type v x.kind x.index) (without_indices of.0) (same.ty ∙ ap (option_map without_indices) of.1) in (
      core_export x.name was.0,
      ap (option_map (core_export x.name)) was.1,
      same.name ∙ ap (λ (e : CoreExport). e.name) of.2,
      was.2 ∙ ap (λ (e : CoreExport). without_indices e.ty) of.2,
    )

turned : (v m : ModuleValue) (x y : ExportValue) → IsSameExport v m x y → IsSameExport m v y x
turned v m x y same = record { name = sym same.name; ty = sym same.ty }

core_from : (v m : ModuleValue) → All (IsOldExport v m) m.exports → (x : CoreExport) → Contains (core_exports m m.exports) x
    → HasSameButIndices (core_exports v v.exports) x
unfolding core_exports
core_from v m old x there =
    let of = kept_from (typed_export m) m.exports x there in
    let was = All-contains (IsOldExport v m) m.exports of.0 old of.1 in
    let same = same_typed v m was.0 of.0 x was.2 of.2 in
    (same.0, kept_there (typed_export v) v.exports was.0 same.0 was.1 same.1, same.2, same.3)

core_kept : (v m : ModuleValue) (names : List (List ℕ)) → ((x : ExportValue) → Contains v.exports x → Contains names x.name → IsKeptExport v m x)
    → (x : CoreExport) → Contains (core_exports v v.exports) x → Contains names x.name
    → HasSameButIndices (core_exports m m.exports) x
unfolding core_exports
core_kept v m names kept x there named =
    let of = kept_from (typed_export v) v.exports x there in
    let is = kept of.0 of.1 (subst (Contains names) (named_at of.0 (item_type v (of.0).kind (of.0).index) x of.2) named) in
    let same = same_typed m v is.0 of.0 x (turned v m of.0 is.0 is.2) of.2 in
    (same.0, kept_there (typed_export m) m.exports is.0 same.0 is.1 same.1, same.2, same.3)

-- the cause of a fault that is not Memory
imports_cause : (e : EncoderView) (renames : Option (List RenameView)) (library : Option LibraryView) (types : List FuncTypeValue) (imports : List ImportValue)
    (f : ValidateFault) → f ≢ Memory
    → IsImportsCause e renames library types imports f → (s : ImportScope) × IsImportScopeFor e renames library types s × IsImportFault s [] imports f
imports_cause e renames library types imports Memory other h = absurd (other refl)
imports_cause e renames library types imports f other h = h

exports_cause : (e : EncoderView) (keys : List KeyView) (required : List (List ℕ × FuncTypeValue)) (m : ModuleValue) (f : ValidateFault) → f ≢ Memory
    → IsExportsCause e keys required m f
    → (s : NameScope) × IsNameScopeOf e s × (
    IsExportsFault s keys (core_exports m m.exports) f
    ⊎ ((recorded : ExportRecord) × AreExports s keys (core_exports m m.exports) recorded
    × IsUnmetFault s.resolve (core_exports m m.exports) recorded (requirements s.world.exports keys required) f)
    )
exports_cause e keys required m Memory other h = absurd (other refl)
exports_cause e keys required m f other h = h

-- what imports are recorded by, of a module that is no library
scope_is : (e : EncoderView) (renames : Option (List RenameView)) (library : Option LibraryView) (m : ModuleValue) (s : ImportScope) (g : NameScope)
    → IsImportScopeFor e renames library m.types s → library ≡ None → s.name_scope ≡ g
    → s ≡ name_scope_of g renames m
scope_is e renames library m s g is none same =
    let no_library : s.library ≡ None = is.has_library ∙ none in
    λ k. record { name_scope = same k; library = no_library k; renames = is.has_renames k; types = is.has_types k }

imports_part : (e : EncoderView) → MeaningsUnique e.resolve
    → (j : ValidationInput) (v m : ModuleValue) (r : ModuleRecord) (names : List (List ℕ)) (f : ValidateFault)
    → j.encoder ≡ e → j.library ≡ None
    → IsModuleRecord j v r → IsRestriction names v m → (s : ImportScope) → IsImportScopeFor j.encoder j.renames j.library m.types s
    → IsImportFault s [] m.imports f → (f ≡ DuplicateImport) × HasCollision m
imports_part e unique j v m r names f is none valid restriction s for h =
    let first = valid.imports in
    let g = (first.0).name_scope in
    let resolve : e.resolve ≡ g.resolve = sym (ap (λ (z : EncoderView). z.resolve) is) ∙ sym (ap (λ (z : NameScope). z.resolve) first.1.has_name_scope.2) in
    let own = scope_is j.encoder j.renames j.library v first.0 g first.1 none refl in
    let other = scope_is j.encoder j.renames j.library m s g for none (one_name_scope j.encoder s.name_scope g for.has_name_scope first.1.has_name_scope) in
    imports_refused g j.renames v m (subst MeaningsUnique resolve unique) first.2.0 (subst (λ z. AreEntries z [] v.imports first.2.0) own first.2.1)
    restriction.origins restriction.imports restriction.distinct f
    (subst (λ z. IsImportFault z [] m.imports f) other h)

exports_part : ExportsUnique → (j : ValidationInput) (v m : ModuleValue) (r : ModuleRecord) (names : List (List ℕ)) (f : ValidateFault) → IsModuleRecord j v r
    → AreNeeded j r names → IsRestriction names v m → IsModule m → f ≢ Memory
    → IsExportsCause j.encoder j.keys j.required m f → ⊥
exports_part unique j v m r names f valid needed restriction is other h =
    let first = valid.exports in
    let cause = exports_cause j.encoder j.keys j.required m f other h in
    let same = one_name_scope j.encoder cause.0 first.0 cause.1 first.1 in
    let xs = core_exports v v.exports in
    let ys = core_exports m m.exports in
    exports_valid first.0 j.keys unique names xs ys r.exports first.2 (exports_distinct m is) (core_from v m restriction.old_exports)
    (core_kept v m names restriction.kept_exports) needed.recorded j.required needed.required f other first.3
    (subst (λ z. IsExportsFault z j.keys ys f ⊎ ((q : ExportRecord) × AreExports z j.keys ys q
    × IsUnmetFault z.resolve ys q (requirements z.world.exports j.keys j.required) f)) same cause.2)

pub restrictions_valid : (e : EncoderView) → MeaningsUnique e.resolve → ExportsUnique → RestrictionsValid e
restrictions_valid e unique unique_exports j v m r names f is none valid needed restriction module_is other (inl h) =
    let cause = imports_cause j.encoder j.renames j.library m.types m.imports f other h in
    imports_part e unique j v m r names f is none valid restriction cause.0 cause.1 cause.2
restrictions_valid e unique unique_exports j v m r names f is none valid needed restriction module_is other (inr h) =
    absurd (exports_part unique_exports j v m r names f valid needed restriction module_is other h.2)

-- what is recorded of the exports is the same
exports_recorded : ExportsUnique → (j : ValidationInput) (v m : ModuleValue) (first last : ModuleRecord) (names : List (List ℕ)) → IsModuleRecord j v first
    → AreNeeded j first names → IsRestriction names v m → IsModuleRecord j m last
    → (x : List ℕ × ExportView) → Contains last.exports x ↔ Contains first.exports x
exports_recorded unique j v m first last names valid needed restriction own x =
    let was = valid.exports in
    let is = own.exports in
    let xs = core_exports v v.exports in
    let ys = core_exports m m.exports in
    let second = subst (λ z. AreExports z j.keys ys last.exports) (one_name_scope j.encoder is.0 was.0 is.1 was.1) is.2 in
    let from = core_from v m restriction.old_exports in
    let kept = core_kept v m names restriction.kept_exports in (
      back was.0 j.keys unique names xs ys first.exports last.exports was.2 second from kept needed.recorded x,
      forth was.0 j.keys unique names xs ys first.exports last.exports was.2 second from kept needed.recorded x,
    )

imports_recorded : (e : EncoderView) → MeaningsUnique e.resolve → (j : ValidationInput) (v m : ModuleValue) (first last : ModuleRecord) (names : List (List ℕ))
    → j.encoder ≡ e → j.library ≡ None → j.renames ≡ None
    → IsModuleRecord j v first → (r : IsRestriction names v m) → IsModuleRecord j m last → (x : List ℕ × (List ℕ × ImportView))
    → Contains (imports_in last.imports) x ↔ IsRestrictedImport first r.origins m.imports x
imports_recorded e unique j v m first last names is none plain valid r own =
    let was = valid.imports in
    let now = own.imports in
    let g = (was.0).name_scope in
    let resolve : e.resolve ≡ g.resolve = sym (ap (λ (z : EncoderView). z.resolve) is) ∙ sym (ap (λ (z : NameScope). z.resolve) was.1.has_name_scope.2) in
    let by_first = scope_is j.encoder j.renames j.library v was.0 g was.1 none refl ∙ ap (λ n. name_scope_of g n v) plain in
    let by_last = scope_is j.encoder j.renames j.library m now.0 g now.1 none
    (one_name_scope j.encoder (now.0).name_scope g now.1.has_name_scope was.1.has_name_scope)
    ∙ ap (λ n. name_scope_of g n m) plain in
    imports_restricted g v m (subst MeaningsUnique resolve unique) was.2.0 now.2.0 (subst (λ z. AreEntries z [] v.imports was.2.0) by_first was.2.1)
    (subst (λ z. AreEntries z [] m.imports now.2.0) by_last now.2.1)
    first last was.2.2 now.2.2 r.origins r.imports

pub restrictions_recorded : (e : EncoderView) → MeaningsUnique e.resolve → ExportsUnique → RestrictionsRecorded e
restrictions_recorded e unique unique_exports j v m first last names is none plain valid needed r own = record {
  imports = imports_recorded e unique j v m first last names is none plain valid r own;
  exports = exports_recorded unique_exports j v m first last names valid needed r own;
}
