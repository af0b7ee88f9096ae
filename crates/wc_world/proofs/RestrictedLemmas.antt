-- What trimming leaves of an adapter's imports and exports, as they are recorded.
use Rattle.std.proofs.Common.{◌≡◌, ◌≢◌, ℕ, Bool, true, false, not, List, [], ◌∷◌, ◌++◌, map, filter, Contains, Option, Some, None, slice_get, refl, sym, ap, subst, ◌∙◌, inl, inr}
use Rattle.std.specs.Option.{option_and_then, option_map}
use Rattle.std.specs.Str.{bytes_eq}
use Rattle.std.proofs.lemmas.List.Elements.{All-weaker, Contains-append_left, Contains-append_right}
use Rattle.wc_read.specs.Exports.{ExportValue}
use Rattle.wc_read.specs.Imports.{ImportValue}
use Rattle.wc_read.specs.Items.{FuncValue}
use Rattle.wc_read.specs.Laws.{HasOneValue}
use Rattle.wc_read.specs.Modules.{ModuleValue, SpellsModule}
use Rattle.wc_read.specs.Types.{FuncTypeValue}
use Rattle.wc_read.specs.declared.exports.ExportKind.{ExportKind}
use Rattle.wc_read.specs.declared.exports.ExportKind.TheVariants as export
use Rattle.wc_read.specs.declared.types.ImportType.{ImportType}
use Rattle.wc_read.specs.declared.types.ImportType.TheVariants.{Func, Table, Memory, Global}
use Rattle.wc_write.specs.BuiltValues.{written_module}
use Rattle.wc_write.specs.Values.{AreBytes}
use Rattle.wc_graph.proofs.ListLemmas.{in_filter}
use Rattle.wc_maps.proofs.ListLemmas.{contains_cons, contains_head, contains_none, contains_tail}
use Rattle.wc_encoder.specs.EncoderParts.{EncoderView}
use Rattle.wc_names.specs.ExportViews.{ExportView}
use Rattle.wc_names.specs.SameButIndices.{without_indices}
use Rattle.wc_names.specs.Imports.{ExternType, func_type, global_type, memory_type, table_type}
use Rattle.wc_gc.specs.EditedImage.{edited_image}
use Rattle.wc_gc.specs.LiveItems.{TrimInput}
use Rattle.wc_gc.specs.Parts.{SettingsView}
use Rattle.wc_gc.specs.RestrictionLaws as trimming
use Rattle.wc_gc.specs.TrimmedText.{IsTrimmed}
use Rattle.wc_gc.specs.Unfolding.{edited_from}
use Rattle.wc_gc.proofs.ImportOriginLemmas.{zip_weaker}
use Rattle.wc_texts.specs.Names.{first_occurrences}
use Rattle.wc_validate.specs.Imports.Record.{extern_type}
use Rattle.wc_validate.specs.Exports.Record.{item_type}
use Rattle.wc_validate.specs.Restriction as recording
use Rattle.wc_validate.specs.Restriction.{AreNeeded, IsModuleRecord, RestrictionsRecorded, RestrictionsValid}
use Rattle.wc_validate.specs.Validate.{IsModuleCause, IsRecordOf, ValidationInput, ModuleRecord}
use Rattle.wc_validate.specs.declared.fault.ValidateFault.{ValidateFault}
use Rattle.wc_validate.specs.declared.fault.ValidateFault.TheVariants as fault
use Rattle.wc_validate.proofs.ContainedLemmas.{all_by, mapped_there}
use Rattle.wc_validate.proofs.ExclusionLemmas.{no_component}
use Rattle.wc_validate.proofs.InstanceLemmas.{same}
use Rattle.wc_world.specs.Trimming.{NamedAdapter, validation_input_of, required_names}
use Rattle.wc_world.specs.Restricted.{IsCollision, IsTrimFor, RefusedAsCollision, TrimmedIsRestricted}
use Rattle.wc_world.specs.World.{settings_of, adapter_trim_input}

-- the types of items, as they are recorded

abbrev to_extern : trimming.ItemType → ExternType
to_extern (trimming.func_item t) = func_type t
to_extern (trimming.table_item t) = table_type t
to_extern (trimming.memory_item t) = memory_type t
to_extern (trimming.global_item t) = global_type t

typed : {A : Type 0} (f : A → ExternType) (g : A → trimming.ItemType) → ((x : A) → f x ≡ to_extern (g x)) → (o : Option A) → option_map f o ≡ option_map to_extern (option_map g o)
typed f g e None = refl
typed f g e (Some x) = ap Some (e x)

import_typed : (types : List FuncTypeValue) (t : ImportType) → extern_type types t ≡ option_map to_extern (trimming.import_type types t)
import_typed types (Func index) = typed func_type trimming.func_item (λ x. refl) (slice_get types index)
import_typed types (Table t) = refl
import_typed types (Memory t) = refl
import_typed types (Global t) = refl

func_typed : (types : List FuncTypeValue) (o : Option FuncValue) → option_and_then (λ (f : FuncValue). option_map func_type (slice_get types f.ty)) o
    ≡ option_map to_extern (option_and_then (λ (f : FuncValue). option_map trimming.func_item (slice_get types f.ty)) o)
func_typed types None = refl
func_typed types (Some f) = typed func_type trimming.func_item (λ x. refl) (slice_get types f.ty)

export_typed : (m : ModuleValue) (kind : ExportKind) (index : ℕ) → item_type m kind index ≡ option_map to_extern (trimming.export_type m kind index)
export_typed m export.Func index = func_typed m.types (slice_get m.funcs index)
export_typed m export.Table index = typed (λ t. table_type t.ty) (λ t. trimming.table_item t.ty) (λ x. refl) (slice_get m.tables index)
export_typed m export.Memory index = typed (λ t. memory_type t.ty) (λ t. trimming.memory_item t.ty) (λ x. refl) (slice_get m.memories index)
export_typed m export.Global index = typed (λ g. global_type g.ty) (λ g. trimming.global_item g.ty) (λ x. refl) (slice_get m.globals index)

-- one restriction is the other

without_of : (t : trimming.ItemType) → without_indices (to_extern t) ≡ to_extern (trimming.without_indices t)
without_of (trimming.func_item t) = refl
without_of (trimming.table_item t) = refl
without_of (trimming.memory_item t) = refl
without_of (trimming.global_item t) = refl

without_under : (o : Option trimming.ItemType) → option_map without_indices (option_map to_extern o) ≡ option_map to_extern (option_map trimming.without_indices o)
without_under None = refl
without_under (Some t) = ap Some (without_of t)

typed_the_same : (a b : Option ExternType) (o p : Option trimming.ItemType) → a ≡ option_map to_extern o → b ≡ option_map to_extern p → trimming.AreSameTypesButIndices o p → recording.AreSameTypesButIndices a b
typed_the_same a b o p first second but_indices =
    ap (option_map without_indices) first
    ∙ (without_under o ∙ (ap (option_map to_extern) but_indices ∙ (sym (without_under p) ∙ ap (option_map without_indices) (sym second))))

import_same : (v m : ModuleValue) (j i : ImportValue) → trimming.SameImport v m j i → recording.IsSameImport v m j i
import_same v m j i h = record {
  from = h.from;
  name = h.name;
  ty = typed_the_same _ _ _ _ (import_typed v.types j.ty) (import_typed m.types i.ty) h.ty;
}

export_same : (v m : ModuleValue) (x y : ExportValue) → trimming.SameExport v m x y → recording.IsSameExport v m x y
export_same v m x y h = record {
  name = h.name;
  ty = typed_the_same _ _ _ _ (export_typed v x.kind x.index) (export_typed m y.kind y.index) h.ty;
}

origin_same : (realloc : Option (List ℕ)) (v m : ModuleValue) (o : Option ℕ) (i : ImportValue) → trimming.HasOrigin realloc v m o i → recording.HasOrigin v m o i
origin_same realloc v m (Some position) i h = (h.0, h.1, import_same v m h.0 i h.2)
origin_same realloc v m None i h = (h.from, h.func, import_typed m.types i.ty ∙ ap (option_map to_extern) h.ty)

abbrev restricts : (realloc : Option (List ℕ)) (names : List (List ℕ)) (v m : ModuleValue) → trimming.IsRestriction realloc names v m → recording.IsRestriction names v m
restricts realloc names v m r = record {
  origins = r.origins;
  imports = zip_weaker (trimming.HasOrigin realloc v m) (recording.HasOrigin v m) (origin_same realloc v m) r.origins m.imports r.imports;
  distinct = r.distinct;
  old_exports = All-weaker (trimming.IsOldExport v m) (recording.IsOldExport v m) (λ y h. (h.0, h.1, export_same v m h.0 y h.2)) m.exports r.old_exports;
  kept_exports = λ x there named. let h = r.new_exports x there named in (h.0, h.1, export_same v m x h.0 h.2);
}

-- what is recorded of bytes is recorded of the module that they spell
recorded : HasOneValue SpellsModule → (j : ValidationInput) (bytes : List ℕ) (r : ModuleRecord) (m : ModuleValue) → IsRecordOf j bytes r → SpellsModule bytes m → IsModuleRecord j m r
recorded one j bytes r m h s = subst (λ z. IsModuleRecord j z r) (one bytes h.value m h.spelled s) (record { imports = h.imports; exports = h.exports })

module _ (e : EncoderView) (restriction : trimming.TrimmedIsRestriction) (one : HasOneValue SpellsModule) where
  module _ (j : ValidationInput) (s : SettingsView) (w : TrimInput) (text : List ℕ) (first : ModuleRecord) (t : IsTrimFor e j s w text first) where
    abbrev adapter : ModuleValue
    adapter = t.trimmed.image.value

    restricted : (m : ModuleValue) → SpellsModule text m → trimming.IsRestriction s.realloc w.required adapter m
    restricted = restriction s w text t.bytes t.trimmed

    original : IsModuleRecord j adapter first
    original = recorded one j w.bytes first adapter t.original t.trimmed.image.spelled

    -- the module that is read of the trimmed adapter
    abbrev image : ModuleValue
    image = written_module (edited_image (edited_from s w text t.trimmed.image))

    spelled : SpellsModule text image
    spelled = subst (λ z. SpellsModule z image) (sym t.trimmed.image.written) t.trimmed.read.spelled

  pub trimmed_restricted : RestrictionsRecorded e → TrimmedIsRestricted e
  trimmed_restricted law j s w text first last t r =
      let m = r.value in
      let of = restricted j s w text first t m r.spelled in
      record {
        adapter = adapter j s w text first t;
        trimmed = m;
        spells_adapter = t.trimmed.image.spelled;
        spells_trimmed = r.spelled;
        restriction = of;
        records = law j (adapter j s w text first t) m first last w.required t.encoder t.no_library t.no_renames (original j s w text first t) t.needed (restricts s.realloc w.required (adapter j s w text first t) m of) (recorded one j text last m r r.spelled);
      }

  collision : RestrictionsValid e → (j : ValidationInput) (s : SettingsView) (w : TrimInput) (text : List ℕ) (first : ModuleRecord) (f : ValidateFault) → IsTrimFor e j s w text first → f ≢ fault.Memory → (m : ModuleValue) → SpellsModule text m → IsModuleCause j m f → IsCollision text f
  collision law j s w text first f t other m spells cause =
      let v = adapter j s w text first t in
      let is = law j v m first w.required f t.encoder t.no_library (original j s w text first t) t.needed (restricts s.realloc w.required v m (restricted j s w text first t m spells)) spells.has_sections.valid other cause in
      record { duplicate = is.0; trimmed = m; spelled = spells; collides = is.1 }

  pub refused_as_collision : RestrictionsValid e → RefusedAsCollision e
  refused_as_collision law j s w text first fault.Memory t other h = absurd (other refl)
  refused_as_collision law j s w text first (fault.Read f) t other h = absurd (h.2 (image j s w text first t) (spelled j s w text first t))
  refused_as_collision law j s w text first fault.NotAModule t other h = absurd (no_component text (image j s w text first t) (spelled j s w text first t) h)
  refused_as_collision law j s w text first f t other h = collision law j s w text first f t other h.0 h.1 h.2

-- the names that are required of an adapter hold those that are needed

others_there : (k m : List ℕ) (ks : List (List ℕ)) (b : Bool) → bytes_eq k m ≡ b → Contains ks m → Contains (k ∷ filter (λ z. not (bytes_eq k z)) ks) m
others_there k m ks true e c = subst (Contains (k ∷ filter (λ z. not (bytes_eq k z)) ks)) (same k m e) (contains_head (filter (λ z. not (bytes_eq k z)) ks) k)
others_there k m ks false e c = contains_tail k (filter (λ z. not (bytes_eq k z)) ks) m (in_filter (λ z. not (bytes_eq k z)) ks m c (ap not e))

pub occurrence_there : (ms : List (List ℕ)) (m : List ℕ) → Contains ms m → Contains (first_occurrences ms) m
occurrence_there [] m c = absurd (contains_none m c)
occurrence_there (k ∷ ms) m c = elim (contains_cons k ms m c) [
  | inl is ↦ subst (Contains (first_occurrences (k ∷ ms))) is (contains_head (filter (λ z. not (bytes_eq k z)) (first_occurrences ms)) k)
  | inr later ↦ others_there k m (first_occurrences ms) (bytes_eq k m) refl (occurrence_there ms m later)
]

pub needed_names : (j : ValidationInput) (r : ModuleRecord) → AreNeeded j r (required_names j.required r.exports)
needed_names j r =
    let required = map (λ (f : List ℕ × FuncTypeValue). f.0) j.required in
    let exported = map (λ (x : List ℕ × ExportView). x.0) r.exports in
    record {
      recorded = all_by (λ (x : List ℕ × ExportView). Contains (required_names j.required r.exports) x.0) r.exports (λ x c.
          occurrence_there (required ++ exported) x.0 (Contains-append_right required exported x.0 (mapped_there (λ (z : List ℕ × ExportView). z.0) r.exports x c)));
      required = all_by (λ (f : List ℕ × FuncTypeValue). Contains (required_names j.required r.exports) f.0) j.required (λ f c.
          occurrence_there (required ++ exported) f.0 (Contains-append_left required exported f.0 (mapped_there (λ (z : List ℕ × FuncTypeValue). z.0) j.required f c)));
    }

-- an adapter of an encoder, trimmed as a component's world has it
pub trimmed_for : (e : EncoderView) (main : ModuleRecord) (x : NamedAdapter) (first : ModuleRecord) (text : List ℕ) → x.1.library_info ≡ None → AreBytes x.1.wasm
    → IsRecordOf (validation_input_of e main x) x.1.wasm first → IsTrimmed (settings_of e main first) (adapter_trim_input main x first) text
    → IsTrimFor e (validation_input_of e main x) (settings_of e main first) (adapter_trim_input main x first) text first
trimmed_for e main x first text none bytes original trimmed = record {
  encoder = refl;
  no_library = none;
  no_renames = refl;
  bytes = bytes;
  original = original;
  trimmed = trimmed;
  needed = needed_names (validation_input_of e main x) first;
}
