-- Where nothing is added, the image of a cut is the cut without its names.
use Rattle.std.proofs.Common.{◌≡◌, ℕ, ◌+◌, ◌-◌, ◌<◌, List, [], ◌∷◌, ◌++◌, length, map, refl, sym, ◌∙◌, ap, subst, Bool, true, false, cond, Option}
use Rattle.std.proofs.Common.{Some, None, arith, append-nil}
use Rattle.std.specs.Prelude.{IsTrue, filter, ◌&&◌}
use Rattle.std.specs.List.{AllByRecursion, slice_get}
use Rattle.std.specs.Option.{option_map, option_map_or}
use Rattle.std.proofs.lemmas.Bool.{lt-ltb}
use Rattle.std.proofs.lemmas.List.{map-append}
use Rattle.std.proofs.lemmas.List.Elements.{recursion_from_All}
use Rattle.wc_read.specs.Bodies.{BodyValue}
use Rattle.wc_read.specs.Exports.{ExportValue}
use Rattle.wc_read.specs.Items.{DefValue, ItemValue, TableValue, imported, local}
use Rattle.wc_read.specs.Renumbering.{Renumbering, renumber_func_type}
use Rattle.wc_read.specs.Types.{FuncTypeValue}
use Rattle.wc_read.specs.declared.operators.Space.TheVariants.{Types, Funcs, Tables, Memories, Globals}
use Rattle.wc_write.specs.BuiltValues.{HasImportsFirst, is_defined, is_imported}
use Rattle.wc_read.specs.Items.{def_seen, item_seen}
use Rattle.wc_write.specs.Modules.{BuiltValue}
use Rattle.wc_read.specs.Decoded.{DecodedModule, FuncCode, GlobalCode, ItemIndex, exported_item}
use Rattle.wc_gc.specs.Edit.{EditedModule, added_types, edited_by, edited_def, edited_func, is_exported_func, replaced}
use Rattle.wc_gc.specs.EditedImage.{added_func_rank, edited_image, edited_rank, func_rank}
use Rattle.wc_read.specs.Entries.{body_refs, def_refs, entry_refs, func_entry, func_refs, func_type_refs, global_entry, global_refs, no_entry}
use Rattle.wc_read.specs.Entries.{table_entry, type_entry, val_type_refs}
use Rattle.wc_gc.specs.Found.{FoundView, is_realloc}
use Rattle.wc_gc.specs.Image.{kept_items, kept_of, new_body, new_export, new_func, new_global, new_table, rank, renumber_body}
use Rattle.wc_gc.specs.Parts.{SettingsView, parts_of}
use Rattle.wc_gc.specs.TraceLaws.{AddsNothing, AreClosed, all_items}
use Rattle.wc_gc.specs.Unfolding.{built_module, renumber_func, renumber_global}
use Rattle.wc_read.specs.Decoded.{is_code}
use Rattle.wc_gc.specs.declared.parts.Parts.{Parts}
use Rattle.wc_gc.proofs.BuiltPartLemmas.{each_weaker}
use Rattle.wc_gc.proofs.CutCodeLemmas.{Agrees, body_agrees, func_type_agrees, global_agrees, table_agrees}
use Rattle.wc_gc.proofs.CutFoundLemmas.{cut, funcs_kept, types_kept}
use Rattle.wc_gc.proofs.CutImageLemmas.{both_mapped, kept_twice}
use Rattle.wc_gc.proofs.CutListLemmas.{count_all, keep_all}
use Rattle.wc_gc.proofs.FoundLemmas.{realloc_seen}
use Rattle.wc_gc.proofs.ImageLemmas.{all_kept, map_twice}
use Rattle.wc_gc.proofs.ImageUnfoldingLemmas.{func_of_code, global_of_code}
use Rattle.wc_gc.proofs.RankLawLemmas.{fewer_below}
use Rattle.wc_gc.proofs.TwiceListLemmas.{defined_at, enumerated_same, group_of, group_same, imports_at, kept_passing}
use Rattle.wc_gc.proofs.UntouchedLemmas.{func_with}

-- no parts

abbrev pub no_parts : Parts
no_parts = record { import_realloc = false; lazy = false; growing = false; start = false }

abbrev parts_from : Bool → Bool → Bool → Bool → Parts
parts_from a b c d = record { import_realloc = a; lazy = b; growing = c; start = d }

pub parts_none : (s : SettingsView) (f : FoundView) → AddsNothing s f → parts_of s f ≡ no_parts
parts_none s f n =
    ap (λ b. parts_from b (parts_of s f).lazy (parts_of s f).growing (parts_of s f).start) n.import_realloc
    ∙ (ap (λ b. parts_from false b (parts_of s f).growing (parts_of s f).start) n.lazy
    ∙ (ap (λ b. parts_from false false b (parts_of s f).start) n.growing ∙ ap (λ b. parts_from false false false b) n.start))

pub mapped_each : {A B : Type 0} (P : B → Type 0) (f : A → B) (xs : List A) → AllByRecursion (λ x. P (f x)) xs → AllByRecursion P (map f xs)
mapped_each P f [] h = tt
mapped_each P f (x ∷ xs) h = (h.0, mapped_each P f xs h.1)

-- without parts an edit changes only imported reallocs that are reached

pub def_same : (funcs : ℕ) (s : SettingsView) (f : FoundView) (reached exported : Bool) (d : DefValue (Option BodyValue))
    → (reached && is_realloc d) ≡ false → edited_def funcs s no_parts f reached exported d ≡ d
def_same funcs s f reached exported (imported m n) h = ap (λ b. cond b (replaced s f) (imported m n)) h
def_same funcs s f reached exported (local b) h = refl

-- what is live is closed; its functions are no reallocs among the imports; its bodies and initialisers are code; in the cut
-- imported functions come first
pub record IsPlain (m : DecodedModule) (exports : List ExportValue) (live : ItemIndex → Bool) : Type 0 where
  pub closed : AreClosed m exports live
  pub no_realloc : (n : ℕ) (x : FuncCode) → live (Funcs, n) ≡ true → slice_get m.funcs n ≡ Some x → is_realloc x.def ≡ false
  pub func_code : (n : ℕ) (x : FuncCode) → live (Funcs, n) ≡ true → slice_get m.funcs n ≡ Some x → IsTrue (is_code x.def)
  pub global_code : (n : ℕ) (x : GlobalCode) → live (Globals, n) ≡ true → slice_get m.globals n ≡ Some x → IsTrue (is_code x.def)
  pub first : HasImportsFirst (cut m exports live).funcs

module _ (s : SettingsView) (m : DecodedModule) (exports : List ExportValue) (live : ItemIndex → Bool) (i : IsPlain m exports live)
    (g : FoundView) where
  abbrev C : DecodedModule
  C = cut m exports live

  abbrev N : EditedModule
  N = edited_by s C C.exports all_items no_parts g

  abbrev R : Renumbering
  R = edited_rank N

  abbrev r : Renumbering
  r = rank live

  abbrev K : ℕ
  K = length C.funcs

  abbrev kept_funcs : List FuncCode
  kept_funcs = kept_of m live Funcs m.funcs

  abbrev kept_globals : List GlobalCode
  kept_globals = kept_of m live Globals m.globals

  -- live functions and globals, one by one

  pub each_func : (P : FuncCode → Type 0) → ((n : ℕ) (x : FuncCode) → live (Funcs, n) ≡ true → slice_get m.funcs n ≡ Some x → P x)
      → AllByRecursion P kept_funcs
  each_func P h = recursion_from_All P kept_funcs (all_kept P (λ n. live (Funcs, n)) m.funcs h (length m.funcs))

  -- the edit changes no function

  one_same : (x : FuncCode) → is_realloc x.def ≡ false → (n : ℕ) → edited_func K s no_parts g true (is_exported_func C.exports n) x ≡ x
  one_same x h n = ap (func_with x) (def_same K s g true (is_exported_func C.exports n) x.def h)

  none_in_cut : AllByRecursion (λ (x : FuncCode). is_realloc x.def ≡ false) C.funcs
  none_in_cut =
      mapped_each (λ (x : FuncCode). is_realloc x.def ≡ false) (renumber_func r) kept_funcs
      (each_func (λ (x : FuncCode). is_realloc (renumber_func r x).def ≡ false)
      (λ n x h at. realloc_seen (option_map (renumber_body r)) x.def ∙ i.no_realloc n x h at))

  funcs_same : N.value.funcs ≡ C.funcs
  funcs_same =
      enumerated_same (λ x. edited_func K s no_parts g true (is_exported_func C.exports x.0) x.1) C.funcs 0
      (each_weaker (λ (x : FuncCode). is_realloc x.def ≡ false)
      (λ x. (n : ℕ) → edited_func K s no_parts g true (is_exported_func C.exports n) x ≡ x) C.funcs one_same none_in_cut)

  -- ranks of ranks

  func_stays : (n : ℕ) → n < K → R Funcs n ≡ n
  func_stays n l =
      let long = ap length funcs_same in
      ap (λ (b : Bool). cond b (func_rank N n) (added_func_rank N (n - length N.value.funcs)))
      (lt-ltb n (length N.value.funcs) (omega (arith, l, long)))
      ∙ (ap (λ zs. group_of zs n) funcs_same ∙ group_same C.funcs i.first n l)

  type_stays : (n : ℕ) → n < length C.types → R Types n ≡ n
  type_stays n l =
      ap (λ (b : Bool). cond b (rank all_items Types n) (rank all_items Types (length C.types) + (n - length C.types))) (lt-ltb n (length C.types) l)
      ∙ count_all n

  pub rank_stays : (x : ItemIndex) → live x ≡ true → Agrees r R r x
  rank_stays (Types, n) h =
      let bounded = fewer_below (λ j. live (Types, j)) n (length m.types) h (i.closed.there (Types, n) h) in
      let long = types_kept m exports live in
      type_stays (r Types n) (omega (arith, bounded, long))
  rank_stays (Funcs, n) h =
      let bounded = fewer_below (λ j. live (Funcs, j)) n (length m.funcs) h (i.closed.there (Funcs, n) h) in
      let long = funcs_kept m exports live in
      func_stays (r Funcs n) (omega (arith, bounded, long))
  rank_stays (Tables, n) h = count_all (r Tables n)
  rank_stays (Memories, n) h = count_all (r Memories n)
  rank_stays (Globals, n) h = count_all (r Globals n)

  all_stay : (xs : List ItemIndex) → AllByRecursion (λ x. live x ≡ true) xs → AllByRecursion (Agrees r R r) xs
  all_stay xs h = each_weaker (λ x. live x ≡ true) (Agrees r R r) xs rank_stays h

  pub func_names : (n : ℕ) (x : FuncCode) → live (Funcs, n) ≡ true → slice_get m.funcs n ≡ Some x → AllByRecursion (λ y. live y ≡ true) (func_refs x)
  func_names n x h at =
      subst (λ o. AllByRecursion (λ y. live y ≡ true) (entry_refs (option_map_or func_entry o no_entry))) at (i.closed.named (Funcs, n) h)

  pub global_names : (n : ℕ) (x : GlobalCode) → live (Globals, n) ≡ true → slice_get m.globals n ≡ Some x
      → AllByRecursion (λ y. live y ≡ true) (global_refs x)
  global_names n x h at =
      subst (λ o. AllByRecursion (λ y. live y ≡ true) (entry_refs (option_map_or global_entry o no_entry))) at (i.closed.named (Globals, n) h)

  pub type_names : (n : ℕ) (x : FuncTypeValue) → live (Types, n) ≡ true → slice_get m.types n ≡ Some x
      → AllByRecursion (λ y. live y ≡ true) (func_type_refs x)
  type_names n x h at =
      subst (λ o. AllByRecursion (λ y. live y ≡ true) (entry_refs (option_map_or type_entry o no_entry))) at (i.closed.named (Types, n) h)

  pub table_names : (n : ℕ) (x : TableValue) → live (Tables, n) ≡ true → slice_get m.tables n ≡ Some x
      → AllByRecursion (λ y. live y ≡ true) (val_type_refs (x.ty.element_type ∷ []))
  table_names n x h at =
      subst (λ o. AllByRecursion (λ y. live y ≡ true) (entry_refs (option_map_or table_entry o no_entry))) at (i.closed.named (Tables, n) h)

  -- items that are renumbered twice

  body_stays : (o : Option BodyValue) → AllByRecursion (Agrees r R r) (body_refs o) → new_body R (option_map (renumber_body r) o) ≡ new_body r o
  body_stays None h = refl
  body_stays (Some x) h = body_agrees r R r x h

  def_stays : (d : DefValue (Option BodyValue)) → AllByRecursion (Agrees r R r) (def_refs body_refs d)
      → def_seen (new_body R) (def_seen (option_map (renumber_body r)) d) ≡ def_seen (new_body r) d
  def_stays (imported y z) h = refl
  def_stays (local o) h = ap local (body_stays o h)

  abbrev item_with : ℕ → DefValue BodyValue → ItemValue ℕ BodyValue
  item_with t d = record { ty = t; def = d }

  one_stays : (n : ℕ) (x : FuncCode) → live (Funcs, n) ≡ true → slice_get m.funcs n ≡ Some x → new_func R (renumber_func r x) ≡ new_func r x
  one_stays n x h at =
      let names = all_stay (func_refs x) (func_names n x h at) in
      ap (λ t. item_with t (def_seen (new_body R) (def_seen (option_map (renumber_body r)) x.def))) names.0
      ∙ ap (item_with (r Types x.ty)) (def_stays x.def names.1)

  funcs_stay : map (new_func R) C.funcs ≡ map (new_func r) kept_funcs
  funcs_stay = kept_twice (λ n. live (Funcs, n)) m.funcs (renumber_func r) (new_func R) (new_func r) one_stays

  abbrev grouped : List FuncCode → List (ItemValue ℕ BodyValue)
  grouped zs =
      map (new_func R) (kept_items (imports_at zs) (length zs) zs) ++ ([] ++ (map (new_func R) (kept_items (defined_at zs) (length zs) zs) ++ []))

  funcs_are : grouped N.value.funcs ≡ map (new_func r) kept_funcs
  funcs_are =
      ap grouped funcs_same
      ∙ (ap (λ zs. map (new_func R) zs ++ (map (new_func R) (kept_items (defined_at C.funcs) (length C.funcs) C.funcs) ++ []))
      (kept_passing (λ (x : FuncCode). is_imported x) C.funcs)
      ∙ (ap (λ zs. map (new_func R) (filter is_imported C.funcs) ++ (map (new_func R) zs ++ []))
      (kept_passing (λ (x : FuncCode). is_defined x) C.funcs)
      ∙ (ap (λ zs. map (new_func R) (filter is_imported C.funcs) ++ zs) (append-nil (map (new_func R) (filter is_defined C.funcs)))
      ∙ (sym (map-append (new_func R) (filter is_imported C.funcs) (filter is_defined C.funcs))
      ∙ (ap (map (new_func R)) (sym i.first) ∙ funcs_stay)))))

  globals_are : map (new_global R) (kept_of C all_items Globals C.globals) ≡ map (new_global r) kept_globals
  globals_are =
      ap (map (new_global R)) (keep_all C.globals)
      ∙ kept_twice (λ n. live (Globals, n)) m.globals (renumber_global r) (new_global R) (new_global r)
      (λ n x h at. global_agrees r R r x (all_stay (global_refs x) (global_names n x h at)))

  tables_are : map (new_table R) (kept_of C all_items Tables C.tables) ≡ C.tables
  tables_are =
      ap (map (new_table R)) (keep_all C.tables)
      ∙ kept_twice (λ n. live (Tables, n)) m.tables (new_table r) (new_table R) (new_table r)
      (λ n x h at. table_agrees r R r x (all_stay (val_type_refs (x.ty.element_type ∷ [])) (table_names n x h at)))

  abbrev export_with : ExportValue → ℕ → ExportValue
  export_with e n = record { name = e.name; kind = e.kind; index = n }

  exports_are : map (new_export R) C.exports ≡ C.exports
  exports_are =
      map_twice (new_export r) (new_export R) exports
      ∙ both_mapped (λ e. new_export R (new_export r e)) (new_export r) exports
      (each_weaker (λ e. live (exported_item e) ≡ true) (λ e. new_export R (new_export r e) ≡ new_export r e) exports
      (λ e h. ap (export_with e) (rank_stays (exported_item e) h)) i.closed.exported)

  -- so this is the image
  abbrev pub plain : BuiltValue
  plain = record {
    types = C.types;
    funcs = map (new_func r) kept_funcs;
    tables = C.tables;
    memories = C.memories;
    globals = map (new_global r) kept_globals;
    exports = C.exports;
    start = None;
    producers = m.producers;
  }

  types_are : map (renumber_func_type R) (kept_of C all_items Types C.types) ++ map (renumber_func_type R) (added_types no_parts g) ≡ C.types
  types_are =
      append-nil (map (renumber_func_type R) (kept_of C all_items Types C.types))
      ∙ (ap (map (renumber_func_type R)) (keep_all C.types)
      ∙ kept_twice (λ n. live (Types, n)) m.types (renumber_func_type r) (renumber_func_type R) (renumber_func_type r)
      (λ n x h at. func_type_agrees r R r x (all_stay (func_type_refs x) (type_names n x h at))))

  pub plain_image : edited_image N ≡ plain
  unfolding edited_image
  plain_image = rw (types_are, funcs_are, tables_are, keep_all C.memories, globals_are, exports_are) refl

  -- and this the module that it spells
  abbrev pub unnamed : DecodedModule
  unnamed = record C { global_names = [] }

  pub plain_read : built_module plain ≡ unnamed
  plain_read =
      let funcs : map (item_seen Some) (map (new_func r) kept_funcs) ≡ C.funcs =
      kept_twice (λ n. live (Funcs, n)) m.funcs (new_func r) (item_seen Some) (renumber_func r) (λ n x h at. func_of_code r x (i.func_code n x h at)) in
      let globals : map (item_seen Some) (map (new_global r) kept_globals) ≡ C.globals =
      kept_twice (λ n. live (Globals, n)) m.globals (new_global r) (item_seen Some) (renumber_global r)
      (λ n x h at. global_of_code r x (i.global_code n x h at)) in
      rw (funcs, globals) refl
