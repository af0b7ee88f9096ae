-- Exports recorded one after another.
use Rattle.std.proofs.Common.{◌≡◌, ◌≢◌, ℕ, suc, ◌<◌, ◌≤◌, ◌+◌, Bool, true, false, cond, List, [], ◌∷◌, ◌++◌, map, length, get_or, drop, take, Option, Some, None, Ok, Err, All, AllPairs, String, string_bytes, is_some, refl, sym, ap, subst, ◌∙◌, append-nil, append_assoc, arith}
use Rattle.std.specs.List.{cons_option, filter_map}
use Rattle.std.specs.Map.{lookup}
use Rattle.std.specs.Option.{option_map}
use Rattle.std.specs.String.{string_eq}
use Rattle.std.specs.Str.{bytes_eq}
use Rattle.std.specs.declared.alloc.Global.{Global}
use Rattle.std.proofs.lemmas.List.{map-append, take_all, take_more}
use Rattle.std.proofs.lemmas.List.Elements.{All-head, All-tail, filter_map-append}
use Rattle.std.proofs.Math.Seq.{drop-cons}
use Rattle.std.proofs.lemmas.Slice.Eq.{bytes_eq-Decides}
use Rattle.indexmap.specs.IndexMap.{insert_entry}
use Rattle.wc_read.specs.declared.exports.Export.{Export as RawExport}
use Rattle.wc_read.specs.Exports.{ExportValue, export_value}
use Rattle.wc_read.specs.Modules.{ModuleValue}
use Rattle.wc_resolve.specs.Views.{KeyView}
use Rattle.wc_maps.proofs.LookupLemmas.{name_viewed}
use Rattle.wc_maps.proofs.PairLemmas.{pairs_head, pairs_tail}
use Rattle.wc_names.specs.declared.exports.Export.{Export}
use Rattle.wc_names.specs.Exports.{ClassifiedExport, CoreExport}
use Rattle.wc_names.specs.ExportViews.{ExportView, export_view}
use Rattle.wc_names.specs.Imports.{ExternType, NameScope}
use Rattle.wc_validate.specs.Imports.AdapterTypes.{first_some}
use Rattle.wc_validate.specs.Exports.Contexts.{core_export}
use Rattle.wc_validate.specs.Exports.Map.{ExportRecord, export_entry}
use Rattle.wc_validate.specs.Exports.Record.{AreExports, IsExportEntry, IsExportRecorded, core_exports, entry_of, item_type, typed_export}
use Rattle.wc_validate.proofs.IndexLemmas.{lookup_push}
use Rattle.wc_names.proofs.ExportIndexLemmas.{is_called}
use Rattle.wc_validate.proofs.PutLemmas.{insert_new}
use Rattle.wc_validate.specs.Classifications.{IsClassification}
use Rattle.wc_validate.specs.declared.name_fault.NameFault.TheVariants as naming
use Rattle.wc_validate.specs.Private.Exports.Classify.{IsExportClassified}

-- what the classification of an export says of its record
pub entry_none : (e : NameScope) (keys : List KeyView) (x : CoreExport) → IsExportClassified (ClassifiedExport e keys x) x.ty (Ok None)
    → IsExportEntry e keys x None
unfolding IsClassification IsExportEntry
entry_none e keys x v = v

pub entry_some : (e : NameScope) (keys : List KeyView) (x : CoreExport) (y : Export) → IsExportClassified (ClassifiedExport e keys x) x.ty (Ok (Some y))
    → IsExportEntry e keys x (Some (export_view y))
unfolding IsClassification IsExportEntry
entry_some e keys x y v = v

-- an allocation failed
pub entry_memory : (e : NameScope) (keys : List KeyView) (x : CoreExport) → IsExportClassified (ClassifiedExport e keys x) x.ty (Err naming.Memory)
unfolding IsClassification
entry_memory e keys x = tt

-- an export that means nothing adds nothing
pub recorded_nothing : (e : NameScope) (keys : List KeyView) (x : CoreExport) (old : ExportRecord) → IsExportEntry e keys x None
    → IsExportRecorded e keys x old old
recorded_nothing e keys x old h = (None, h, sym (append-nil old))

-- an export whose name is not recorded goes after the others
pub recorded_new : (e : NameScope) (keys : List KeyView) (x : CoreExport) (es new : List (String Global × Export)) (k : String Global) (y : Export)
    → new ≡ insert_entry string_eq es k y → string_bytes k ≡ x.name
    → lookup (bytes_eq x.name) (map export_entry es) ≡ None → IsExportEntry e keys x (Some (export_view y))
    → IsExportRecorded e keys x (map export_entry es) (map export_entry new)
recorded_new e keys x es new k y put key none h =
    let there : lookup (is_called x.name) es ≡ None = absent (lookup (is_called x.name) es) (name_viewed export_view es x.name ∙ none) in
    let free : is_some (lookup (is_called (string_bytes k)) es) ≡ false = ap is_some (ap (λ z. lookup (is_called z) es) key ∙ there) in (
      Some (export_view y),
      h,
      ap (map export_entry) (put ∙ insert_new es k y free) ∙ (map-append export_entry es ((k, y) ∷ [])
          ∙ ap (λ (z : List ℕ). map export_entry es ++ (z, export_view y) ∷ []) key),
    ) where
      absent : (o : Option Export) → option_map export_view o ≡ None → o ≡ None
      absent None is = refl
      absent (Some z) is = absurd (let bad : ⊥ = cc is in bad)

-- none of the names that are left is recorded, and no two of them are one
abbrev pub Differs : List ℕ → List ExportValue → Type 0
Differs name [] = Unit {0}
Differs name (x ∷ xs) = (name ≢ x.name) × Differs name xs

abbrev pub AreFresh : ExportRecord → List ExportValue → Type 0
AreFresh recorded [] = Unit {0}
AreFresh recorded (x ∷ xs) = (lookup (bytes_eq x.name) recorded ≡ None) × Differs x.name xs × AreFresh recorded xs

differs_all : (name : List ℕ) (xs : List ExportValue) → All (λ y. name ≢ y) (map (λ (x : ExportValue). x.name) xs) → Differs name xs
differs_all name [] h = tt
differs_all name (x ∷ xs) h = (
  All-head (λ y. name ≢ y) x.name (map (λ (x : ExportValue). x.name) xs) h,
  differs_all name xs (All-tail (λ y. name ≢ y) x.name (map (λ (x : ExportValue). x.name) xs) h),
)

fresh_start : (xs : List ExportValue) → AllPairs (λ (x y : List ℕ). x ≢ y) (map (λ (x : ExportValue). x.name) xs) → AreFresh [] xs
fresh_start [] h = tt
fresh_start (x ∷ xs) h = (
  refl,
  differs_all x.name xs (pairs_head (λ (x y : List ℕ). x ≢ y) x.name (map (λ (x : ExportValue). x.name) xs) h),
  fresh_start xs (pairs_tail (λ (x y : List ℕ). x ≢ y) x.name (map (λ (x : ExportValue). x.name) xs) h),
)

other_name : (a b : List ℕ) → b ≢ a → bytes_eq a b ≡ false
other_name a b differ = at (bytes_eq a b) refl where
  at : (t : Bool) → bytes_eq a b ≡ t → t ≡ false
  at true is = absurd (differ (sym ((bytes_eq-Decides a b).0 is)))
  at false is = refl

unrecorded : (recorded : ExportRecord) (name own : List ℕ) (o : Option ExportView) → lookup (bytes_eq name) recorded ≡ None → own ≢ name
    → lookup (bytes_eq name) (recorded ++ entry_of own o) ≡ None
unrecorded recorded name own None none differ = ap (lookup (bytes_eq name)) (append-nil recorded) ∙ none
unrecorded recorded name own (Some v) none differ =
    lookup_push (bytes_eq name) recorded own v ∙ (ap (λ z. first_some z (cond (bytes_eq name own) (Some v) None)) none
    ∙ ap (λ b. cond b (Some v) None) (other_name name own differ))

fresh_next : (recorded : ExportRecord) (own : List ℕ) (o : Option ExportView) (xs : List ExportValue) → Differs own xs → AreFresh recorded xs
    → AreFresh (recorded ++ entry_of own o) xs
fresh_next recorded own o [] differ fresh = tt
fresh_next recorded own o (x ∷ xs) differ fresh = (unrecorded recorded x.name own o fresh.0 differ.0, fresh.1, fresh_next recorded own o xs differ.1 fresh.2)

pub no_exports : (e : NameScope) (keys : List KeyView) (m : ModuleValue) → AreExports e keys (core_exports m []) []
unfolding core_exports
no_exports e keys m = refl

-- exports
exports_more : (e : NameScope) (keys : List KeyView) (xs : List CoreExport) (x : CoreExport) (old new : ExportRecord) → AreExports e keys xs old
    → IsExportRecorded e keys x old new → AreExports e keys (xs ++ x ∷ []) new
exports_more e keys [] x old new h k =
    (k.0, [], k.1, refl, k.2 ∙ (ap (λ z. z ++ entry_of x.name k.0) h ∙ sym (append-nil (entry_of x.name k.0))))
exports_more e keys (y ∷ ys) x old new h k = (
  h.0,
  h.1 ++ entry_of x.name k.0,
  h.2,
  exports_more e keys ys x h.1 (h.1 ++ entry_of x.name k.0) h.3 (k.0, k.1, refl),
  k.2 ∙ (ap (λ z. z ++ entry_of x.name k.0) h.4 ∙ append_assoc (entry_of y.name h.0) h.1 (entry_of x.name k.0)),
)

core_more : (m : ModuleValue) (es : List ExportValue) (x : ExportValue) (ty : ExternType) → item_type m x.kind x.index ≡ Some ty
    → core_exports m (es ++ x ∷ []) ≡ core_exports m es ++ core_export x.name ty ∷ []
unfolding core_exports
core_more m es x ty is =
    filter_map-append (typed_export m) es (x ∷ [])
    ∙ ap (λ z. filter_map (typed_export m) es ++ z) (ap (λ (o : Option ExternType). cons_option (option_map (core_export x.name) o) []) is)

-- the rest of a list, and the next of it
pub values_next : (exports : List RawExport) (i : ℕ) (d : RawExport) → i < length exports
    → map export_value (drop i exports) ≡ export_value (get_or exports i d) ∷ map export_value (drop (i + 1) exports)
values_next exports i d h =
    let one : suc i ≡ i + 1 = omega arith in
    ap (map export_value) (drop-cons exports i d h ∙ ap (λ z. get_or exports i d ∷ drop z exports) one)

-- how far exports are recorded: those before an index are, and the names of the others are new
pub record ExportsPassed (e : NameScope) (keys : List KeyView) (m : ModuleValue) (es : List RawExport) (i : ℕ) (recorded : ExportRecord) : Type 0 where
  pub fresh : AreFresh recorded (map export_value (drop i es))
  pub before : AreExports e keys (core_exports m (map export_value (take i es))) recorded

module _ (e : NameScope) (keys : List KeyView) (m : ModuleValue) (es : List RawExport) where
  pub exports_start : (recorded : ExportRecord) → recorded ≡ []
      → AllPairs (λ (x y : List ℕ). x ≢ y) (map (λ (x : ExportValue). x.name) (map export_value es)) → ExportsPassed e keys m es 0 recorded
  exports_start recorded is distinct =
      subst (ExportsPassed e keys m es 0) (sym is) (record { fresh = fresh_start (map export_value es) distinct; before = no_exports e keys m })

  module _ (i : ℕ) (d : RawExport) (old : ExportRecord) (below : i < length es) (p : ExportsPassed e keys m es i old) where
    left : AreFresh old (export_value (get_or es i d) ∷ map export_value (drop (i + 1) es))
    left = subst (AreFresh old) (values_next es i d below) p.fresh

    pub exports_fresh : lookup (bytes_eq (export_value (get_or es i d)).name) old ≡ None
    exports_fresh = left.0

    pub exports_next : (ty : ExternType) (new : ExportRecord)
        → item_type m (export_value (get_or es i d)).kind (export_value (get_or es i d)).index ≡ Some ty
        → IsExportRecorded e keys (core_export (export_value (get_or es i d)).name ty) old new → ExportsPassed e keys m es (i + 1) new
    exports_next ty new typed h =
        let x = export_value (get_or es i d) in
        let more = ap (map export_value) (take_more es i d below) ∙ map-append export_value (take i es) (get_or es i d ∷ []) in
        record {
          fresh = subst (λ z. AreFresh z (map export_value (drop (i + 1) es))) (sym h.2)
              (fresh_next old x.name h.0 (map export_value (drop (i + 1) es)) left.1 left.2);
          before = subst (λ z. AreExports e keys z new) (sym (ap (core_exports m) more ∙ core_more m (map export_value (take i es)) x ty typed))
              (exports_more e keys (core_exports m (map export_value (take i es))) (core_export x.name ty) old new p.before h);
        }

  pub exports_end : (i : ℕ) (recorded : ExportRecord) → length es ≤ i → ExportsPassed e keys m es i recorded
      → AreExports e keys (core_exports m (map export_value es)) recorded
  exports_end i recorded end p = subst (λ z. AreExports e keys (core_exports m (map export_value z)) recorded) (take_all i es end) p.before
