-- What trimming answers is read back as the image that it is the text of.
use Rattle.std.proofs.Common.{◌++◌, ◌≡◌, ◌∙◌, ap, map, ◌≢◌, ℕ, ◌<◌, ◌≤◌, ◌^◌, List, length, refl, sym, subst, Bool, true, false, Option, Some, None, inl, inr, arith}
use Rattle.std.specs.Prelude.{All, IsTrue, IsSome, ◌&&◌}
use Rattle.std.proofs.lemmas.Bool.{cases_lt}
use Rattle.std.proofs.lemmas.List.{length-append, length-map}
use Rattle.std.proofs.lemmas.List.Elements.{All-append, All-from_recursion, All-nil}
use Rattle.std.specs.Option.{option_map}
use Rattle.wc_read.specs.BodyOperators.{init_in}
use Rattle.wc_read.specs.Exports.{ExportValue}
use Rattle.wc_read.specs.Modules.{ModuleValue, SpellsModule, count_of}
use Rattle.wc_read.specs.Renumbering.{renumber_func_type}
use Rattle.wc_read.specs.Types.{FuncTypeValue, HasTypeIndex, HaveTypeIndices}
use Rattle.wc_read.specs.declared.types.ValType.{ValType}
use Rattle.wc_read.specs.declared.types.ValType.TheVariants.{I32}
use Rattle.wc_read.specs.declared.operators.Space.TheVariants.{Types, Funcs, Globals}
use Rattle.wc_write.specs.Values.{AreBytes, IsFuncType, IsValType}
use Rattle.wc_write.specs.Modules.{BuiltValue, SizeFits, SizesFit}
use Rattle.wc_read.specs.Items.{item_seen}
use Rattle.wc_write.specs.BuiltValues.{IsExport, IsRead}
use Rattle.wc_write.proofs.ModuleTextLemmas.{module_read}
use Rattle.wc_write.proofs.WritableModuleLemmas.{spelled_writable}
use Rattle.wc_gc.specs.Causes.{DecidesLive}
use Rattle.wc_read.specs.Decoded.{ItemIndex, decode}
use Rattle.wc_gc.specs.AddedCode.{empty_type, realloc_type}
use Rattle.wc_gc.specs.Edit.{added_types, edit, only_if, start_of, types_added}
use Rattle.wc_gc.specs.EditedImage.{FitsBits, edited_image}
use Rattle.wc_gc.specs.Found.{found_in, is_empty}
use Rattle.wc_gc.specs.Image.{new_global}
use Rattle.wc_gc.specs.Laws.{AreSettings}
use Rattle.wc_gc.specs.Parts.{SettingsView, parts_of}
use Rattle.wc_gc.specs.Exports.{kept_exports}
use Rattle.wc_gc.specs.LiveItems.{HasLiveBody, TrimInput}
use Rattle.wc_gc.specs.InRange.{is_item_in_range}
use Rattle.wc_gc.specs.Trim.{IsImageText, IsTrimCause}
use Rattle.wc_gc.specs.declared.fault.GcFault.{GcFault}
use Rattle.wc_gc.specs.declared.parts.Parts.{Parts}
use Rattle.wc_gc.specs.declared.fault.GcFault.TheVariants.{LiveBody, TooLarge}
use Rattle.wc_gc.proofs.BuiltImageLemmas.{AreExports, AreKept, image_built, image_with, kept_in, kept_seen, kept_types_named, kept_types_spelled, types_written}
use Rattle.wc_gc.proofs.BuiltPartLemmas.{short_inits}
use Rattle.wc_gc.proofs.EditedFuncLemmas.{all_only, edited_funcs_can, edited_start, short_names}
use Rattle.wc_gc.proofs.EditedIndexLemmas.{are_new, funcs_written, new}
use Rattle.wc_gc.proofs.ExportLemmas.{all_kept}
use Rattle.wc_gc.proofs.KeptExportLemmas.{pairs_kept, pairs_named}
use Rattle.wc_gc.proofs.LiveItemLemmas.{live_named, live_root}
use Rattle.wc_gc.proofs.SpelledItemLemmas.{all_joined, have_items}
use Rattle.wc_gc.proofs.TypeTestLemmas.{added_types_stay}

no_start : (o : Option ℕ) → ¬ (IsSome o) → o ≡ None
no_start None h = refl
no_start (Some n) h = absurd (h refl)

-- types that are added have no parameters and results but i32
added_types_have : (P : ValType → Type 0) → P I32 → (p : Parts) (no_empty : Bool) → All (λ t. All P t.params × All P t.results) (types_added p no_empty)
added_types_have P one p no_empty =
    let Q : FuncTypeValue → Type 0 = λ t. All P t.params × All P t.results in
    let empty : Q empty_type = (All-nil P, All-nil P) in
    let params = All-from_recursion P realloc_type.params (one, (one, (one, (one, tt)))) in
    let realloc : Q realloc_type = (params, All-from_recursion P realloc_type.results (one, tt)) in
    All-from_recursion Q (types_added p no_empty)
    (all_joined Q (only_if p.import_realloc realloc_type) _ (all_only Q p.import_realloc realloc_type (λ h. realloc))
    (all_joined Q (only_if p.lazy empty_type) _ (all_only Q p.lazy empty_type (λ h. empty))
    (all_joined Q (only_if p.growing realloc_type) _ (all_only Q p.growing realloc_type (λ h. realloc))
    (all_only Q (p.start && no_empty) empty_type (λ h. empty)))))

module _ (bytes : List ℕ) (required : List (List ℕ)) (m : ModuleValue) (live : ItemIndex → Bool) (all : AreBytes bytes) (s : SpellsModule bytes m) (decides : DecidesLive required m live) where
  abbrev exports : List ExportValue
  exports = kept_exports required m.exports

  pub live_are_kept : AreKept m exports live
  live_are_kept = record { named = live_named required m live decides; exported = live_root required m live decides }

  pub kept_are_exports : AreExports m exports
  kept_are_exports =
      let w = spelled_writable bytes m all s in
      let v = s.has_sections.valid in
      let differ_back : (a b : ExportValue) → a.name ≢ b.name → b.name ≢ a.name = λ a b h e. h (sym e) in
      record {
        can_be_spelled = all_kept IsExport required m.exports w.exports;
        there = all_kept (λ e. e.index < count_of m e.kind) required m.exports v.exported;
        distinct = pairs_kept (λ a b. a.name ≢ b.name) differ_back required m.exports (pairs_named (λ (e : ExportValue). e.name) m.exports v.distinct);
      }

  pub live_in_range : ¬ (HasLiveBody required m) → (n : ℕ) → IsTrue (live (Funcs, n)) → is_item_in_range (decode m) (Funcs, n) ≡ true
  live_in_range none n h = by (is_item_in_range (decode m) (Funcs, n)) refl
    where
      by : (b : Bool) → is_item_in_range (decode m) (Funcs, n) ≡ b → b ≡ true
      by true e = refl
      by false e = absurd (none ((Funcs, n), (decides (Funcs, n)).0 h, e))

  -- the image of the edited adapter
  abbrev pub edited_value : SettingsView → BuiltValue
  edited_value set =
      let p = parts_of set (found_in (decode m) live) in
      let f = found_in (decode m) live in
      let r = new set m exports live p f in
      image_with m exports live r (types_written m live r ++ added_types p f) (funcs_written set m exports live p f)
      (option_map (r Funcs) (start_of (length (decode m).funcs) p))

  pub edited_value_is : (set : SettingsView) → edited_image (edit set (decode m) exports live) ≡ edited_value set
  unfolding edited_image edit
  edited_value_is set =
      let p = parts_of set (found_in (decode m) live) in
      let f = found_in (decode m) live in
      let r = new set m exports live p f in
      let by : List FuncTypeValue → BuiltValue = λ ts. image_with m exports live r (types_written m live r ++ ts) (funcs_written set m exports live p f)
      (option_map (r Funcs) (start_of (length (decode m).funcs) p)) in
      let same : edited_image (edit set (decode m) exports live) ≡ by (map (renumber_func_type r) (added_types p f)) =
      rw (kept_seen (new_global r) (item_seen init_in) (λ n. live (Globals, n)) m.globals) refl in
      same ∙ ap by (added_types_stay r p f)

  pub edited_text_read : (set : SettingsView) → AreSettings set → ¬ (HasLiveBody required m) → FitsBits (edited_image (edit set (decode m) exports live)) → IsRead (edited_image (edit set (decode m) exports live))
  edited_text_read set are in_range fits =
      let is = edited_value_is set in
      let fit = subst FitsBits is fits in
      let f = found_in (decode m) live in
      let p = parts_of set f in
      let w = spelled_writable bytes m all s in
      let items = have_items bytes m all s in
      let v = s.has_sections.valid in
      let b = edited_value set in
      let funcs = edited_funcs_can set m exports live p are w items v live_are_kept (live_in_range in_range) fit.funcs fit.types (short_names b fit.sizes) in
      let starts = edited_start set m exports live p are w items v live_are_kept (live_in_range in_range) fit.funcs in
      let r = new set m exports live p f in
      let written = funcs_written set m exports live p f in
      let kept = types_written m live r in
      let types = kept ++ added_types p f in
      let all = length-append kept (added_types p f) in
      let as_many = length-map (kept_in live Types m.types) (renumber_func_type r) in
      let most : length (kept_in live Types m.types) ≤ length types = omega (arith, all, as_many) in
      let new_ones = are_new set m exports live p f fit.funcs (length types) most in
      let spelled = All-append IsFuncType kept (added_types p f) (kept_types_spelled m live r new_ones.keeps w)
      (added_types_have IsValType tt p (is_empty f.empties)) in
      let names = All-append (HaveTypeIndices (length types)) kept (added_types p f)
      (kept_types_named m live w v live_are_kept.named r (length types) (length written) new_ones)
      (added_types_have (HasTypeIndex (length types)) refl p (is_empty f.empties)) in
      let built = image_built m exports live w items v live_are_kept kept_are_exports r types written
      (option_map (r Funcs) (start_of (length (decode m).funcs) p)) new_ones spelled names funcs starts (short_inits b fit.sizes) in
      subst IsRead (sym is) (module_read b built fit.sizes)

-- sizes that cannot be said not to fit fit

size_fits : (content : Option (List ℕ)) → ¬ (¬ (SizeFits content)) → SizeFits content
size_fits None h = tt
size_fits (Some c) h = elim (cases_lt (length c) (2 ^ 32)) [ inl small ↦ small | inr large ↦ absurd (h (λ small. omega (arith, small, large))) ]

sizes_fit : (b : BuiltValue) → ¬ (¬ (SizesFit b)) → SizesFit b
sizes_fit b h k d below = size_fits _ (λ none. h (λ all. none (all k d below)))

number_fits : (n : ℕ) → ¬ (¬ (n < 2 ^ 32)) → n < 2 ^ 32
number_fits n h = elim (cases_lt n (2 ^ 32)) [ inl small ↦ small | inr large ↦ absurd (h (λ small. omega (arith, small, large))) ]

bits_fit : (b : BuiltValue) → ¬ (¬ (FitsBits b)) → FitsBits b
bits_fit b h = record {
  types = number_fits (length b.types) (λ none. h (λ all. none all.types));
  funcs = number_fits (length b.funcs) (λ none. h (λ all. none all.funcs));
  sizes = sizes_fit b (λ none. h (λ all. none all.sizes));
}

pub trimmed_text_read : (s : SettingsView) (w : TrimInput) (text : List ℕ) → AreSettings s → AreBytes w.bytes → (t : IsImageText s w text) → ((f : GcFault) → ¬ (IsTrimCause s w f))
    → IsRead (edited_image (edit s (decode t.value) (kept_exports w.required t.value.exports) t.live))
trimmed_text_read s w text are all t none =
    edited_text_read w.bytes w.required t.value t.live all t.spelled t.decides s are (λ h. none LiveBody (inl (t.value, t.spelled, h)))
    (bits_fit (edited_image (edit s (decode t.value) (kept_exports w.required t.value.exports) t.live)) (λ h. none TooLarge (inr (t.value, t.live, t.spelled, t.decides, h))))
