-- A text that an adapter was trimmed to without an addition: it spells the cut, which is its own cut, so it is trimmed to itself.
use Rattle.std.proofs.Common.{◌≡◌, ℕ, ◌≤◌, List, [], ◌∷◌, ◌++◌, length, map, refl, sym, ◌∙◌, ap, subst, Bool, true, false, ◌&&◌, ◌||◌, not, cond}
use Rattle.std.proofs.Common.{Option, Some, None, arith, ltb-true, inl, inr}
use Rattle.std.specs.Prelude.{Contains, IsSome, IsTrue, is_some, string_bytes}
use Rattle.std.specs.List.{AllByRecursion, list_all, list_any, range_with_len, slice_get}
use Rattle.std.specs.Option.{option_map, option_map_or, option_to_list}
use Rattle.std.specs.Str.{bytes_eq}
use Rattle.std.proofs.lemmas.Bool.{false≢true, lt-ltb, not-true, and_parts}
use Rattle.std.proofs.lemmas.List.{length-map}
use Rattle.std.proofs.lemmas.Option.{slice_get-map, slice_get_within}
use Rattle.wc_read.specs.Bodies.{BodyValue}
use Rattle.wc_read.specs.BodyOperators.{body_in, init_in}
use Rattle.wc_read.specs.Exports.{ExportValue}
use Rattle.wc_read.specs.Items.{DefValue, imported, local, TableValue}
use Rattle.wc_read.specs.Modules.{IsModule, ModuleValue, SpellsModule}
use Rattle.wc_read.specs.Renumbering.{Renumbering, renumber_func_type}
use Rattle.wc_read.specs.declared.operators.Space.TheVariants.{Types, Funcs, Tables, Memories, Globals}
use Rattle.wc_read.proofs.ModulesLemmas.{modules_one}
use Rattle.wc_read.proofs.OptionsLemmas.{some_same}
use Rattle.wc_write.specs.BuiltValues.{HasImportsFirst, IsRead, IsWritable, written_module}
use Rattle.wc_read.specs.Items.{def_seen, item_seen}
use Rattle.wc_write.specs.Modules.{BuiltValue, built_text}
use Rattle.wc_write.specs.Values.{AreBytes}
use Rattle.wc_write.proofs.WritableModuleLemmas.{spelled_writable}
use Rattle.wc_gc.specs.Causes.{DecidesLive, IsFoundCause, called_reallocs, grows_memory, has_page_size_at, has_realloc_type}
use Rattle.wc_gc.specs.Cut.{cut_of, ranks_named, part_names}
use Rattle.wc_read.specs.Decoded.{DecodedModule, FuncCode, GlobalCode, ItemIndex, decode, exported_item, is_in, size_of}
use Rattle.wc_gc.specs.Edit.{edit, edited_by}
use Rattle.wc_gc.specs.EditedImage.{FitsBits, edited_image}
use Rattle.wc_read.specs.Entries.{body_refs, def_refs, func_entry, func_refs, no_entry, global_refs, func_type_refs, val_type_refs}
use Rattle.wc_gc.specs.Found.{FoundView, allocation_state, found_in, is_mutable_i32_at, is_own_memory_at, is_realloc, is_realloc_at, stack_pointer}
use Rattle.wc_gc.specs.Image.{kept_of, new_export, rank, renumber_body, kept_items, new_table}
use Rattle.wc_gc.specs.Exports.{export_names, is_exported, is_required, kept_exports, missing_name}
use Rattle.wc_gc.specs.Laws.{AreSettings}
use Rattle.wc_gc.specs.LiveItems.{HasLiveBody, HasUnsupported, IsLivenessCause, TrimInput, with_bytes}
use Rattle.wc_gc.specs.Parts.{SettingsView, is_any, is_lazy, last_of, parts_of}
use Rattle.wc_gc.specs.Reached.{IsReached}
use Rattle.wc_gc.specs.InRange.{is_item_in_range, is_def_in_range, is_entry_in_range}
use Rattle.wc_gc.specs.TraceLaws.{AddsNothing, AreClosed, TrimTwice, all_items}
use Rattle.wc_gc.specs.TrimmedText.{IsTrimmed}
use Rattle.wc_gc.specs.Trim.{IsImageText, IsLaterCause, IsTrimCause}
use Rattle.wc_gc.specs.Unfolding.{built_module, renumber_func, renumber_global}
use Rattle.wc_read.specs.Decoded.{is_code}
use Rattle.wc_gc.specs.declared.fault.GcFault.{GcFault}
use Rattle.wc_gc.specs.declared.fault.GcFault.TheVariants.{Memory, Read, MissingExport, UnsupportedSection, LiveBody, SeveralNamed, LiveTable}
use Rattle.wc_gc.specs.declared.fault.GcFault.TheVariants.{SeveralMemories, LocalMemory, ReallocType, ReallocMemory, TooLarge}
use Rattle.wc_gc.specs.declared.parts.Parts.{Parts}
use Rattle.wc_gc.proofs.BuiltPartLemmas.{each_weaker, seen_imported}
use Rattle.wc_gc.proofs.ChainLemmas.{any_fails, exports_required, fails_any, same_names}
use Rattle.wc_graph.proofs.ListLemmas.{contains_unmapped, in_all}
use Rattle.wc_gc.proofs.CutCauseLemmas.{causes_are_of_cut}
use Rattle.wc_gc.proofs.CutCodeLemmas.{Agrees, body_agrees, func_type_agrees, global_twice, table_agrees}
use Rattle.wc_gc.proofs.CutFoundLemmas.{cut, cut_is, found_moved, parts_same, parts_stackless}
use Rattle.wc_gc.proofs.CutImageLemmas.{both_mapped, image_is_of_cut, kept_twice}
use Rattle.wc_gc.proofs.CutListLemmas.{keep_all}
use Rattle.wc_gc.proofs.ImageLemmas.{map_twice}
use Rattle.wc_gc.proofs.InitRefLemmas.{global_coded}
use Rattle.wc_graph.proofs.ListLemmas.{get_some}
use Rattle.wc_gc.proofs.KeptItemLemmas.{kept_first}
use Rattle.wc_graph.proofs.ListLemmas.{contains_mapped}
use Rattle.wc_gc.proofs.TraceLemmas.{each_in, live_closed}
use Rattle.wc_gc.proofs.TrimLemmas.{bools, tests_one}
use Rattle.wc_gc.proofs.TrimmedLemmas.{trimmed}
use Rattle.wc_gc.proofs.TrimmedTextLemmas.{live_in_range, trimmed_text_read}
use Rattle.wc_gc.proofs.TwiceImageLemmas.{IsPlain, func_names, global_names, mapped_each, no_parts, parts_none, plain, type_names, table_names}
use Rattle.wc_gc.proofs.TwiceImageLemmas.{plain_image, plain_read}
use Rattle.wc_gc.proofs.TwiceListLemmas.{count_within, filter_none, kept_within, none_found}
use Rattle.wc_gc.proofs.TwiceReachLemmas.{moved_in, named_cut, of_item, reached_moved, in_range_moved}
use Rattle.wc_gc.proofs.UntouchedLiveLemmas.{live_there}
use Rattle.wc_read.specs.Types.{FuncTypeValue}
use Rattle.wc_read.specs.declared.operators.Space.{Space}
use Rattle.wc_gc.proofs.TwiceTextLemmas.{all_exports_kept, and_and_false, built_read, find_same, func_of, required_there, rest_false}

module _ (s : SettingsView) (w : TrimInput) (text : List ℕ) (are : AreSettings s) (all : AreBytes w.bytes) (bytes : AreBytes text)
    (t : IsTrimmed s w text) (none : AddsNothing s (found_in (decode t.image.value) t.image.live)) where
  abbrev m : ModuleValue
  m = t.image.value

  abbrev D : DecodedModule
  D = decode t.image.value

  abbrev live : ItemIndex → Bool
  live = t.image.live

  abbrev ex : List ExportValue
  ex = kept_exports w.required t.image.value.exports

  abbrev C : DecodedModule
  C = cut D ex live

  abbrev f : FoundView
  f = found_in D live

  abbrev g : FoundView
  g = found_in C all_items

  writable : IsWritable m
  writable = spelled_writable w.bytes m all t.image.spelled

  valid : IsModule m
  valid = t.image.spelled.has_sections.valid

  in_range : ¬ (HasLiveBody w.required m)
  in_range h = t.no_cause LiveBody (inl (m, t.image.spelled, h))

  closed : AreClosed D ex live
  closed = live_closed w.required w.bytes m live all t.image.spelled t.image.decides in_range

  -- the adapter

  no_realloc : (n : ℕ) (x : FuncCode) → live (Funcs, n) ≡ true → slice_get D.funcs n ≡ Some x → is_realloc x.def ≡ false
  unfolding found_in
  no_realloc n x h at =
      sym (ap (λ o. option_map_or (λ (y : FuncCode). is_realloc y.def) o false) at)
      ∙ rest_false (live (Funcs, n)) (is_realloc_at D n) h
      (none_found (λ i. live (Funcs, i) && is_realloc_at D i) (length D.funcs) n none.reallocs (slice_get_within D.funcs n x at))

  coded : (x : DefValue (Option BodyValue)) → is_def_in_range D x ≡ true → IsTrue (is_code x)
  coded (imported a b) h = refl
  coded (local None) h = absurd (false≢true h)
  coded (local (Some b)) h = refl

  func_coded : (n : ℕ) (x : FuncCode) → live (Funcs, n) ≡ true → slice_get D.funcs n ≡ Some x → IsTrue (is_code x.def)
  func_coded n x h at =
      coded x.def (sym (ap (λ o. is_entry_in_range D (option_map_or func_entry o no_entry)) at)
      ∙ live_in_range w.bytes w.required m live all t.image.spelled t.image.decides in_range n h)

  init_coded : (n : ℕ) (x : GlobalCode) → live (Globals, n) ≡ true → slice_get D.globals n ≡ Some x → IsTrue (is_code x.def)
  init_coded n x h at =
      let within = slice_get_within D.globals n x at in
      let long = length-map m.globals (item_seen init_in) in
      let v = get_some m.globals n (omega (arith, within, long)) in
      let same : item_seen init_in v.0
      ≡ x = some_same (item_seen init_in v.0) x
      (sym (slice_get-map (item_seen init_in) m.globals n ∙ ap (option_map (item_seen init_in)) v.1) ∙ at) in
      subst (λ (z : GlobalCode). IsTrue (is_code z.def)) same (global_coded m writable valid n v.0 v.1)

  imports_first : HasImportsFirst C.funcs
  imports_first =
      let decoded : HasImportsFirst D.funcs = subst (λ xs. HasImportsFirst (map (item_seen body_in) xs)) (keep_all m.funcs)
      (kept_first (item_seen body_in) (λ i. seen_imported body_in i.def) (λ n. true) m.funcs writable.funcs_ordered) in
      kept_first (renumber_func (rank live)) (λ i. seen_imported (option_map (renumber_body (rank live))) i.def) (λ n. live (Funcs, n)) D.funcs decoded

  is_plain : IsPlain D ex live
  is_plain = record { closed = closed; no_realloc = no_realloc; func_code = func_coded; global_code = init_coded; first = imports_first }

  -- its image, and what the text spells

  abbrev b : BuiltValue
  b = edited_image (edit s D ex live)

  abbrev P : BuiltValue
  P = plain s D ex live is_plain g

  image_plain : b ≡ P
  unfolding edit
  image_plain =
      image_is_of_cut s D ex live closed
      ∙ (ap (λ d. edited_image (edit s d d.exports all_items)) (cut_is D ex live)
      ∙ (ap (λ p. edited_image (edited_by s C C.exports all_items p g)) (parts_same s live f g (found_moved D ex live) ∙ parts_none s f none)
      ∙ plain_image s D ex live is_plain g))

  read : IsRead b
  read = trimmed_text_read s w text are all t.image t.no_cause

  abbrev n : ModuleValue
  n = written_module b

  spelled : SpellsModule text n
  spelled = subst (λ z. SpellsModule z n) (sym t.image.written) read.spelled

  abbrev U : DecodedModule
  U = named_cut D ex live closed []

  decoded : decode n ≡ U
  decoded = built_read b read ∙ (ap built_module image_plain ∙ plain_read s D ex live is_plain g)

  exports_required_all : AllByRecursion (λ e. is_required w.required e.name ≡ true) C.exports
  exports_required_all =
      mapped_each (λ e. is_required w.required e.name ≡ true) (new_export (rank live)) ex
      (each_in (λ e. is_required w.required e.name ≡ true) ex (λ e c. ((exports_required w.required m e valid).0 c).named))

  abbrev exports_built : BuiltValue → List ExportValue
  exports_built z = z.exports

  exports_same : n.exports ≡ C.exports
  exports_same = ap exports_built image_plain

  exports_kept : kept_exports w.required n.exports ≡ C.exports
  exports_kept = ap (kept_exports w.required) exports_same ∙ all_exports_kept w.required C.exports exports_required_all

  -- between what the text spells and the cut

  to_read : (Q : DecodedModule → List ExportValue → Type 0) → Q U C.exports → Q (decode n) (kept_exports w.required n.exports)
  to_read Q h = subst (λ d. Q d (kept_exports w.required n.exports)) (sym decoded) (subst (Q U) (sym exports_kept) h)

  from_read : (Q : DecodedModule → List ExportValue → Type 0) → Q (decode n) (kept_exports w.required n.exports) → Q U C.exports
  from_read Q h = subst (Q U) exports_kept (subst (λ d. Q d (kept_exports w.required n.exports)) decoded h)

  -- liveness of the text

  abbrev there : ItemIndex → Bool
  there x = is_in U x

  reached_all : (y : ItemIndex) → IsTrue (there y) → IsReached U C.exports y
  reached_all y h =
      let x = of_item D ex live closed [] y h in subst (IsReached U C.exports) x.2
      (reached_moved D ex live closed [] x.0 ((t.image.decides x.0).0 x.1))

  decides : DecidesLive w.required n there
  decides y = (
    (λ h. to_read (λ d es. IsReached d es y) (reached_all y h)),
    (λ l. subst (λ d. IsTrue (is_in d y)) decoded (live_there w.required n spelled.has_sections.valid y l)),
  )

  in_range_live : (x : ItemIndex) → live x ≡ true → is_item_in_range D x ≡ true
  in_range_live x h = by (is_item_in_range D x) refl
    where
      by : (c : Bool) → is_item_in_range D x ≡ c → c ≡ true
      by true e = refl
      by false e = absurd (in_range (x, (t.image.decides x).0 h, e))

  in_range_read : ¬ (HasLiveBody w.required n)
  in_range_read h =
      let x = of_item D ex live closed [] h.0 ((decides h.0).1 h.1) in
      false≢true (sym (subst (λ d. is_item_in_range d h.0 ≡ false) decoded h.2)
      ∙ subst (λ z. is_item_in_range U z ≡ true) x.2 (in_range_moved D ex live closed [] x.0 x.1 (in_range_live x.0 x.1)))

  closed_again : AreClosed U C.exports there
  closed_again = from_read (λ d es. AreClosed d es there) (live_closed w.required text n there bytes spelled decides in_range_read)

  -- a cut of the cut

  abbrev r : Renumbering
  r = rank live

  abbrev q : Renumbering
  q = rank there

  rank_again : (x : ItemIndex) → live x ≡ true → Agrees r q r x
  rank_again x h =
      let below = ltb-true (r x.0 x.1) (size_of U x.0) (moved_in D ex live closed [] x h) in
      count_within (λ i. there (x.0, i)) (size_of U x.0) (r x.0 x.1) (λ i l. lt-ltb i (size_of U x.0) l) (omega (arith, below))

  all_again : (xs : List ItemIndex) → AllByRecursion (λ x. live x ≡ true) xs → AllByRecursion (Agrees r q r) xs
  all_again xs h = each_weaker (λ x. live x ≡ true) (Agrees r q r) xs rank_again h

  body_again : (o : Option BodyValue) → AllByRecursion (Agrees r q r) (body_refs o) → option_map (renumber_body q) (option_map (renumber_body r) o)
      ≡ option_map (renumber_body r) o
  body_again None h = refl
  body_again (Some x) h = ap Some (body_agrees r q r x h)

  def_again : (d : DefValue (Option BodyValue)) → AllByRecursion (Agrees r q r) (def_refs body_refs d)
      → def_seen (option_map (renumber_body q)) (def_seen (option_map (renumber_body r)) d) ≡ def_seen (option_map (renumber_body r)) d
  def_again (imported a c) h = refl
  def_again (local o) h = ap local (body_again o h)

  func_again : (i : ℕ) (x : FuncCode) → live (Funcs, i) ≡ true → slice_get D.funcs i ≡ Some x → renumber_func q (renumber_func r x)
      ≡ renumber_func r x
  func_again i x h at =
      let names = all_again (func_refs x) (func_names s D ex live is_plain g i x h at) in
      ap (λ ty. func_of ty (def_seen (option_map (renumber_body q)) (def_seen (option_map (renumber_body r)) x.def))) names.0
      ∙ ap (func_of (r Types x.ty)) (def_again x.def names.1)

  global_again : (i : ℕ) (x : GlobalCode) → live (Globals, i) ≡ true → slice_get D.globals i ≡ Some x → renumber_global q (renumber_global r x)
      ≡ renumber_global r x
  global_again i x h at = global_twice r q r x (all_again (global_refs x) (global_names s D ex live is_plain g i x h at))

  type_again : (i : ℕ) (x : FuncTypeValue) → live (Types, i) ≡ true → slice_get D.types i ≡ Some x
      → renumber_func_type q (renumber_func_type r x) ≡ renumber_func_type r x
  type_again i x h at = func_type_agrees r q r x (all_again (func_type_refs x) (type_names s D ex live is_plain g i x h at))

  table_again : (i : ℕ) (x : TableValue) → live (Tables, i) ≡ true → slice_get D.tables i ≡ Some x → new_table q (new_table r x) ≡ new_table r x
  table_again i x h at =
      table_agrees r q r x (all_again (val_type_refs (x.ty.element_type ∷ [])) (table_names s D ex live is_plain g i x h at))

  abbrev export_with : ExportValue → ℕ → ExportValue
  export_with e i = record { name = e.name; kind = e.kind; index = i }

  -- all of a space is kept again
  all_there : {A B : Type 0} (f : A → B) (space : Space) (xs : List A) → size_of U space ≡ length xs
      → map f (kept_items (λ i. there (space, i)) (length xs) xs) ≡ map f xs
  all_there f space xs e =
      ap (map f) (kept_within (λ i. there (space, i)) xs (λ i l. lt-ltb i (size_of U space) (omega (arith, e, l))))

  types_again : map (renumber_func_type q) (kept_of U there Types C.types) ≡ C.types
  types_again =
      all_there (renumber_func_type q) Types C.types refl
      ∙ kept_twice (λ i. live (Types, i)) D.types (renumber_func_type r) (renumber_func_type q) (renumber_func_type r) type_again

  funcs_again : map (renumber_func q) (kept_of U there Funcs C.funcs) ≡ C.funcs
  funcs_again =
      all_there (renumber_func q) Funcs C.funcs refl
      ∙ kept_twice (λ i. live (Funcs, i)) D.funcs (renumber_func r) (renumber_func q) (renumber_func r) func_again

  tables_again : map (new_table q) (kept_of U there Tables C.tables) ≡ C.tables
  tables_again =
      all_there (new_table q) Tables C.tables refl
      ∙ kept_twice (λ i. live (Tables, i)) D.tables (new_table r) (new_table q) (new_table r) table_again

  globals_again : map (renumber_global q) (kept_of U there Globals C.globals) ≡ C.globals
  globals_again =
      all_there (renumber_global q) Globals C.globals refl
      ∙ kept_twice (λ i. live (Globals, i)) D.globals (renumber_global r) (renumber_global q) (renumber_global r) global_again

  exports_again : map (new_export q) C.exports ≡ C.exports
  exports_again =
      map_twice (new_export r) (new_export q) ex
      ∙ both_mapped (λ e. new_export q (new_export r e)) (new_export r) ex
      (each_weaker (λ e. live (exported_item e) ≡ true) (λ e. new_export q (new_export r e) ≡ new_export r e) ex
      (λ e h. ap (export_with e) (rank_again (exported_item e) h)) closed.exported)

  no_stacks : (test : ItemIndex → Bool) → (found_in U test).stacks ≡ []
  unfolding found_in
  no_stacks test = filter_none _ (range_with_len 0 (length C.globals)) (λ i. and_and_false (test (Globals, i)) (is_mutable_i32_at U i))

  no_states : (test : ItemIndex → Bool) → (found_in U test).states ≡ []
  unfolding found_in
  no_states test = filter_none _ (range_with_len 0 (length C.globals)) (λ i. and_and_false (test (Globals, i)) (is_mutable_i32_at U i))

  names_again : part_names U there ≡ []
  names_again =
      ap (λ xs. ranks_named there stack_pointer xs ++ ranks_named there allocation_state (found_in U there).states) (no_stacks there)
      ∙ ap (λ xs. ranks_named there allocation_state xs) (no_states there)

  cut_again : cut U C.exports there ≡ U
  cut_again =
      rw (
        types_again,
        tables_again,
        kept_within (λ i. there (Memories, i)) C.memories (λ i l. lt-ltb i (length C.memories) l),
        funcs_again,
        globals_again,
        exports_again,
        names_again,
      ) refl

  -- its image

  abbrev G : FoundView
  G = found_in U all_items

  parts_again : parts_of s G ≡ no_parts
  parts_again = parts_stackless s G (ap length (no_stacks all_items))

  unnamed_image : edited_image (edited_by s U U.exports all_items no_parts G) ≡ edited_image (edited_by s C C.exports all_items no_parts G)
  unfolding edited_image
  unnamed_image = refl

  all_image : edited_image (edit s U U.exports all_items) ≡ b
  unfolding edit
  all_image =
      ap (λ p. edited_image (edited_by s U U.exports all_items p G)) parts_again
      ∙ (unnamed_image ∙ (plain_image s D ex live is_plain G ∙ sym image_plain))

  cut_of_again : cut_of U C.exports there ≡ U
  cut_of_again = cut_is U C.exports there ∙ cut_again

  image_again : edited_image (edit s U C.exports there) ≡ b
  image_again = image_is_of_cut s U C.exports there closed_again ∙ (ap (λ d. edited_image (edit s d d.exports all_items)) cut_of_again ∙ all_image)

  -- after liveness no fault has a cause

  reallocs_same : G.reallocs ≡ g.reallocs
  unfolding found_in
  reallocs_same = refl

  tables_same : G.tables ≡ g.tables
  unfolding found_in
  tables_same = refl

  memories_same : G.memories ≡ g.memories
  unfolding found_in
  memories_same = refl

  reallocs_none : G.reallocs ≡ []
  reallocs_none = reallocs_same ∙ ((found_moved D ex live).reallocs ∙ ap (map (rank live Funcs)) none.reallocs)

  none_called : (given lazy : Bool) → cond given (cond lazy (option_to_list (last_of {A = ℕ} [])) []) [] ≡ []
  none_called true true = refl
  none_called true false = refl
  none_called false lazy = refl

  called_none : called_reallocs s G ≡ []
  called_none =
      ap (λ xs. cond (is_some s.realloc) (cond (is_lazy s G) (option_to_list (last_of xs)) []) xs) reallocs_none
      ∙ none_called (is_some s.realloc) (is_lazy s G)

  none_grows : (c : Bool) → (false || (c && false)) ≡ false
  none_grows true = refl
  none_grows false = refl

  grows_none : grows_memory s G ≡ false
  grows_none =
      ap (λ c. c || (not (is_some s.realloc) && is_any G.reallocs)) (ap (λ (p : Parts). p.growing) parts_again)
      ∙ (ap (λ xs. false || (not (is_some s.realloc) && is_any xs)) reallocs_none ∙ none_grows (not (is_some s.realloc)))

  found_again : (x : GcFault) → IsFoundCause s U G x → IsFoundCause s C g x
  found_again SeveralNamed (inl h) = let e = ap length (no_stacks all_items) in absurd (omega (arith, e, h))
  found_again SeveralNamed (inr h) = let e = ap length (no_states all_items) in absurd (omega (arith, e, h))
  found_again LiveTable h = λ e. h (tables_same ∙ e)
  found_again SeveralMemories h = subst (λ xs. 2 ≤ length xs) memories_same h
  found_again LocalMemory h = ap (list_any (is_own_memory_at C)) (sym memories_same) ∙ h
  found_again ReallocType h = absurd (false≢true (sym (ap (λ xs. not (list_all (has_realloc_type U) xs)) called_none) ∙ h))
  found_again ReallocMemory h =
      absurd (false≢true (sym grows_none ∙ (and_parts (grows_memory s G) (not (list_any (has_page_size_at U s.page_size_log2) G.memories)) h).0))
  found_again x h = absurd h

  cut_image : edited_image (edit s U U.exports all_items) ≡ edited_image (edit s C C.exports all_items)
  cut_image = all_image ∙ (image_is_of_cut s D ex live closed ∙ ap (λ d. edited_image (edit s d d.exports all_items)) (cut_is D ex live))

  later_cut : (x : GcFault) → IsLaterCause s U U.exports all_items x → IsLaterCause s C C.exports all_items x
  later_cut TooLarge h = subst (λ z. ¬ (FitsBits z)) cut_image h
  later_cut x h = found_again x h

  later_again : (x : GcFault) → ¬ (IsLaterCause s U C.exports there x)
  later_again x h =
      let cut_cause = subst (λ d. IsLaterCause s d d.exports all_items x) cut_of_again ((causes_are_of_cut s U C.exports there closed_again x).0 h) in
      let old_cause = (causes_are_of_cut s D ex live closed x).1
      (subst (λ d. IsLaterCause s d d.exports all_items x) (sym (cut_is D ex live)) (later_cut x cut_cause)) in
      t.no_cause x (inr (m, live, t.image.spelled, t.image.decides, old_cause))

  -- no required export is missing

  module _ (name : List ℕ) (none_missing : is_required w.required name ≡ true) where
    abbrev differs : ExportValue → Type 0
    differs e = bytes_eq name e.name ≡ false

    names_fail : (es : List ExportValue) → ((e : ExportValue) → Contains es e → differs e) → is_exported es name ≡ false
    names_fail es h =
        fails_any (bytes_eq name) (export_names es)
        (mapped_each (λ k. bytes_eq name k ≡ false) (λ (e : ExportValue). e.name) es (each_in differs es h))

    each_fails : (es : List ExportValue) → is_exported es name ≡ false → (e : ExportValue) → Contains es e → differs e
    each_fails es h e c =
        in_all (λ k. bytes_eq name k ≡ false) (export_names es) e.name (any_fails (bytes_eq name) (export_names es) h)
        (contains_mapped (λ (e : ExportValue). e.name) es e c)

    kept_differs : is_exported C.exports name ≡ false → (e : ExportValue) → Contains ex e → differs e
    kept_differs h e c = each_fails C.exports h (new_export (rank live) e) (contains_mapped (new_export (rank live)) ex e c)

    old_differs : is_exported C.exports name ≡ false → (e : ExportValue) → Contains m.exports e → differs e
    old_differs h e c = by (bytes_eq name e.name) refl
      where
        by : (d : Bool) → bytes_eq name e.name ≡ d → d ≡ false
        by true q =
            absurd (false≢true (sym
            (kept_differs h e ((exports_required w.required m e valid).1
            (record { there = c; named = ap (is_required w.required) (sym (same_names name e.name q)) ∙ none_missing }))) ∙ q))
        by false q = refl

    new_differs : is_exported m.exports name ≡ false → (e : ExportValue) → Contains C.exports e → differs e
    new_differs h e c =
        let o = contains_unmapped (new_export (rank live)) ex e c in
        subst differs o.2 (each_fails m.exports h o.0 ((exports_required w.required m o.0 valid).0 o.1).there)

    missing_where : not (is_exported n.exports name) ≡ not (is_exported m.exports name)
    missing_where =
        ap (λ es. not (is_exported es name)) exports_same
        ∙ bools (not (is_exported C.exports name)) (not (is_exported m.exports name))
        (λ h. ap not (names_fail m.exports (old_differs (not-true (is_exported C.exports name) h))))
        (λ h. ap not (names_fail C.exports (new_differs (not-true (is_exported m.exports name) h))))

  missing_same : missing_name n.exports w.required ≡ missing_name m.exports w.required
  missing_same =
      find_same (λ name. not (is_exported n.exports name)) (λ name. not (is_exported m.exports name)) w.required
      (each_in (λ name. not (is_exported n.exports name) ≡ not (is_exported m.exports name)) w.required
      (λ name c. missing_where name (required_there w.required name c)))

  -- and before it none has

  same_module : (Q : ModuleValue → Type 0) (v : ModuleValue) → SpellsModule text v → Q v → Q n
  same_module Q v is h = subst Q (modules_one text v n is spelled) h

  not_started : (o : Option ℕ) → o ≡ None → ¬ (IsSome o)
  not_started None e h = false≢true h
  not_started (Some x) e h = absurd cc

  abbrev start_built : BuiltValue → Option ℕ
  start_built z = z.start

  supported : ¬ (HasUnsupported n)
  supported (inl h) = not_started n.start (ap start_built image_plain) h
  supported (inr h) = h refl

  liveness_again : (x : GcFault) → ¬ (IsLivenessCause (with_bytes w text) x)
  liveness_again Memory c = c.2
  liveness_again (Read e) c = c.0 n spelled
  liveness_again (MissingExport name) c =
      t.no_cause (MissingExport name)
      (inl (m, t.image.spelled, sym missing_same ∙ same_module (λ v. missing_name v.exports w.required ≡ Some (string_bytes name)) c.0 c.1 c.2))
  liveness_again UnsupportedSection c = supported (same_module HasUnsupported c.0 c.1 c.2)
  liveness_again LiveBody c = in_range_read (same_module (HasLiveBody w.required) c.0 c.1 c.2)
  liveness_again x c = c.2

  cause_again : (x : GcFault) → ¬ (IsTrimCause s (with_bytes w text) x)
  cause_again x (inl c) = liveness_again x c
  cause_again x (inr c) =
      let one : c.0 ≡ n = modules_one text c.0 n c.2 spelled in
      let decided = subst (λ z. DecidesLive w.required z c.1) one c.3 in
      let cause = subst (λ z. IsLaterCause s (decode z) (kept_exports w.required z.exports) c.1 x) one c.4 in
      later_again x (from_read (λ d es. IsLaterCause s d es there x)
      (subst (λ z. IsLaterCause s (decode n) (kept_exports w.required n.exports) z x) (tests_one w.required n c.1 there decided decides) cause))

  written_again : text ≡ built_text (edited_image (edit s (decode n) (kept_exports w.required n.exports) there))
  written_again = t.image.written ∙ ap built_text (sym (to_read (λ d es. edited_image (edit s d es there) ≡ b) image_again))

  image_text_again : IsImageText s (with_bytes w text) text
  image_text_again = record {
    value = n;
    live = there;
    spelled = spelled;
    decides = decides;
    written = written_again;
  }

  one_again : (other : List ℕ) → IsImageText s (with_bytes w text) other → other ≡ text
  one_again other o =
      let one : o.value ≡ n = modules_one text o.value n o.spelled spelled in
      let decided = subst (λ z. DecidesLive w.required z o.live) one o.decides in
      let at_module = subst (λ z. other ≡ built_text (edited_image (edit s (decode z) (kept_exports w.required z.exports) o.live))) one o.written in
      subst (λ z. other ≡ built_text (edited_image (edit s (decode n) (kept_exports w.required n.exports) z)))
      (tests_one w.required n o.live there decided decides) at_module ∙ sym written_again

pub trim_twice : TrimTwice
trim_twice s w text are all bytes t none = record {
  answer = trimmed s (with_bytes w text) text are bytes (image_text_again s w text are all bytes t none) (cause_again s w text are all bytes t none);
  alone = one_again s w text are all bytes t none;
}
