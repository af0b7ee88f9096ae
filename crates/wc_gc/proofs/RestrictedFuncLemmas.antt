-- The imported functions of a trimmed adapter are imports of the adapter that are live, and the main module's realloc.
use Rattle.std.proofs.Common.{◌≡◌, ℕ, ◌+◌, List, [], ◌++◌, length, map, refl, sym, ◌∙◌, ap, subst, Bool, true, false, ◌&&◌, cond, Option, Some, None, unwrap_or}
use Rattle.std.proofs.Common.{append-nil, arith}
use Rattle.std.specs.Prelude.{Contains, is_some}
use Rattle.std.specs.List.{AllZip, filter_map, slice_get}
use Rattle.std.specs.Option.{option_map, option_map_or}
use Rattle.std.proofs.lemmas.List.{length-map}
use Rattle.std.proofs.lemmas.List.Elements.{All-map, filter_map-append, recursion_from_All}
use Rattle.std.proofs.lemmas.Option.{slice_get-map}
use Rattle.std.proofs.lemmas.Bool.{not-true, and_parts}
use Rattle.wc_read.specs.Bodies.{BodyValue}
use Rattle.wc_read.specs.BodyOperators.{body_in}
use Rattle.wc_read.specs.Exports.{ExportValue}
use Rattle.wc_read.specs.Imports.{ImportValue}
use Rattle.wc_read.specs.Items.{DefValue, imported, local, ItemValue, FuncValue}
use Rattle.wc_read.specs.Modules.{ModuleValue, SpellsModule}
use Rattle.wc_read.specs.Renumbering.{Renumbering, renumber_func_type}
use Rattle.wc_read.specs.Spaces.{func_of}
use Rattle.wc_read.specs.Types.{FuncTypeValue}
use Rattle.wc_read.specs.declared.operators.Space.TheVariants.{Types, Funcs}
use Rattle.wc_read.specs.declared.types.ImportType.TheVariants.{Func}
use Rattle.wc_read.specs.Items.{def_seen, item_seen}
use Rattle.wc_write.specs.BuiltValues.{is_import, is_imported, is_defined}
use Rattle.wc_write.specs.Modules.{BuiltValue}
use Rattle.wc_write.specs.Spaces.{import_by, imports_of}
use Rattle.wc_write.specs.Values.{AreBytes}
use Rattle.wc_gc.specs.AddedCode.{empty_type, realloc_type}
use Rattle.wc_gc.specs.Causes.{DecidesLive}
use Rattle.wc_read.specs.Decoded.{FuncCode, ItemIndex, decode}
use Rattle.wc_gc.specs.Edit.{EditedModule, added_types, edited_def, growing_code, growing_func, import_func, is_exported_func, lazy_func, only_if, replaced}
use Rattle.wc_gc.specs.Edit.{start_func}
use Rattle.wc_gc.specs.EditedImage.{is_kept_defined, is_kept_import}
use Rattle.wc_gc.specs.Found.{FoundView, is_empty, is_realloc, is_realloc_at, main_module}
use Rattle.wc_gc.specs.Image.{new_body, new_func}
use Rattle.wc_gc.specs.Parts.{SettingsView, is_any}
use Rattle.wc_gc.specs.RestrictionLaws.{HasOrigin, IsMainImport, func_item}
use Rattle.wc_read.specs.ImportItems.{positions_from}
use Rattle.wc_gc.specs.declared.parts.Parts.{Parts}
use Rattle.wc_graph.proofs.ListLemmas.{back_at as get_back}
use Rattle.wc_gc.proofs.SameButIndicesLemmas.{same_under, func_item_under}
use Rattle.wc_gc.proofs.BuiltImageLemmas.{kept_in}
use Rattle.wc_gc.proofs.BuiltPartLemmas.{seen_imported}
use Rattle.wc_gc.proofs.EditedIndexLemmas.{added_type, edited_at, kept_defined, kept_imports, old_at, olds, was_read}
use Rattle.wc_gc.proofs.ImageLemmas.{all_kept}
use Rattle.wc_gc.proofs.ImportOriginLemmas.{HasSpace, from_at, imported_item_at, kept_pairs, kept_there, kept_zip, origins_of, rising}
use Rattle.wc_graph.proofs.ListLemmas.{get_some}
use Rattle.wc_gc.proofs.KeptItemLemmas.{kept_count, kept_is}
use Rattle.wc_gc.proofs.RestrictedExportLemmas as restricted
use Rattle.wc_gc.proofs.RestrictedImportLemmas.{AreDistinct, HasOriginIn, IsPart, func_kind, func_space, import_is, imports_mapped, none_imported, none_or}
use Rattle.wc_gc.proofs.RestrictedImportLemmas.{origins_differ, origin_from}

-- a realloc that was imported

bodies_leave : (d : DefValue (List ℕ)) → is_realloc (def_seen body_in d) ≡ is_realloc d
bodies_leave (imported a b) = refl
bodies_leave (local x) = refl

module _ (bytes : List ℕ) (required : List (List ℕ)) (v : ModuleValue) (live : ItemIndex → Bool) (all : AreBytes bytes) (s : SpellsModule bytes v)
    (decides : DecidesLive required v live) (set : SettingsView) where
  abbrev exports : List ExportValue
  exports = restricted.exports bytes required v live all s decides set

  abbrev found : FoundView
  found = restricted.found bytes required v live all s decides set

  abbrev parts : Parts
  parts = restricted.parts bytes required v live all s decides set

  abbrev edit_of : EditedModule
  edit_of = restricted.edit_of bytes required v live all s decides set

  abbrev ranks : Renumbering
  ranks = restricted.ranks bytes required v live all s decides set

  abbrev image : BuiltValue
  image = restricted.image bytes required v live all s decides set

  abbrev trimmed : ModuleValue
  trimmed = restricted.trimmed bytes required v live all s decides set

  abbrev olds_of : List FuncCode
  olds_of = olds set v exports live parts found

  abbrev HasFuncOrigin : Option ℕ → ImportValue → Type 0
  HasFuncOrigin = HasOriginIn bytes required v live all s decides set Funcs

  -- an old function, edited, under new indices
  abbrev edited_one : ℕ → DefValue (List ℕ) → DefValue BodyValue
  edited_one n d = def_seen (new_body ranks) (edited_def (length (decode v).funcs) set parts found true (is_exported_func exports n) (def_seen body_in d))

  abbrev position : ℕ → Option ℕ
  position n = slice_get (positions_from Funcs 0 v.imports) n

  abbrev origin : ℕ → Option ℕ
  origin n = cond (is_realloc_at (decode v) n) None (position n)

  realloc_is : (n : ℕ) (g : FuncValue) → slice_get v.funcs n ≡ Some g → is_realloc_at (decode v) n ≡ is_realloc g.def
  realloc_is n g at = ap (λ o. option_map_or (λ (f : FuncCode). is_realloc f.def) o false) (slice_get-map (item_seen body_in) v.funcs n
      ∙ ap (option_map (item_seen body_in)) at) ∙ bodies_leave g.def

  -- other functions stay imported
  stays : (n : ℕ) (d : DefValue (List ℕ)) → is_realloc d ≡ false → is_import d ≡ true → (ty : ℕ) → import_by (Func ty) (edited_one n d) ≡ import_by (Func ty) d
  stays n (imported a b) h i ty = ap (λ c. import_by (Func ty) (def_seen (new_body ranks) (cond c (replaced set found) (imported a b)))) h
  stays n (local x) h i ty = absurd cc

  -- a realloc is the main module's, or is defined
  becomes_main : (n : ℕ) (d : DefValue (List ℕ)) → is_realloc d ≡ true → (ty : ℕ) (t : FuncTypeValue) (i : ImportValue)
      → slice_get image.types ty ≡ Some t → import_by (Func ty) (edited_one n d) ≡ Some i → IsMainImport set.realloc trimmed i
  becomes_main n (local x) h ty t i at e = absurd cc
  becomes_main n (imported a b) h ty t i at e =
      by set.realloc refl (sym (ap (λ c. import_by (Func ty) (def_seen (new_body ranks) (cond c (replaced set found) (imported a b)))) h) ∙ e)
    where
      by : (o : Option (List ℕ)) → set.realloc ≡ o
          → import_by (Func ty) (def_seen (new_body ranks) (option_map_or (λ name. imported main_module name) o (growing_code set found))) ≡ Some i
          → IsMainImport set.realloc trimmed i
      by None is f = absurd cc
      by (Some name) is f =
          let made : ImportValue = record { module_name = main_module; name = name; ty = Func ty } in
          let same : made ≡ i = cc f in
          subst (IsMainImport set.realloc trimmed) same (record { from = refl; name = is; func = t; ty = ap (option_map func_item) at })

  module _ (h : HasSpace func_of v.imports v.funcs) where
    abbrev read : FuncCode → Option ImportValue
    read f = import_by (Func (ranks Types f.ty)) (def_seen (new_body ranks) f.def)

    abbrev has : ℕ → Bool
    has n = is_kept_import edit_of n

    old_type : (n : ℕ) (g : FuncValue) → live (Funcs, n) ≡ true → slice_get v.funcs n ≡ Some g
        → slice_get image.types (ranks Types g.ty) ≡ option_map (renumber_func_type ranks) (slice_get v.types g.ty)
    old_type n g l at =
        restricted.type_same bytes required v live all s decides set g.ty (restricted.func_typed bytes required v live all s decides set n g at)
        (restricted.type_live bytes required v live all s decides set n g l at)

    was_import : (n : ℕ) (d : DefValue (List ℕ)) (ty : ℕ) (i : ImportValue) → import_by (Func ty) (edited_one n d) ≡ Some i → is_import d ≡ true
    was_import n (imported a b) ty i e = refl
    was_import n (local x) ty i e = absurd cc

    origin_by : (n : ℕ) (g : FuncValue) (i : ImportValue) → slice_get v.funcs n ≡ Some g → live (Funcs, n) ≡ true
        → import_by (Func (ranks Types g.ty)) (edited_one n g.def) ≡ Some i
        → (c : Bool) → is_realloc_at (decode v) n ≡ c → HasFuncOrigin (cond c None (position n)) i
    origin_by n g i at l e true c =
        let t = get_some v.types g.ty (restricted.func_typed bytes required v live all s decides set n g at) in
        let there = old_type n g l at ∙ ap (option_map (renumber_func_type ranks)) t.1 in
        record {
          origin = becomes_main n g.def (sym (realloc_is n g at) ∙ c) (ranks Types g.ty) (renumber_func_type ranks t.0) i there e;
          kept = tt;
          within = tt;
        }
    origin_by n g i at l e false c =
        let is = was_import n g.def (ranks Types g.ty) i e in
        let r = from_at (List ℕ) func_of Funcs func_space v.imports v.funcs h n g at is in
        let but_indices = same_under ranks (option_map func_item (slice_get v.types g.ty)) (option_map func_item (slice_get image.types (ranks Types g.ty)))
        (ap (option_map func_item) (old_type n g l at) ∙ func_item_under ranks (slice_get v.types g.ty)) in
        origin_from bytes required v live all s decides set (List ℕ) func_of Func Funcs func_space func_kind n g r (Func (ranks Types g.ty)) i
        (sym (stays n g.def (sym (realloc_is n g at) ∙ c) is (ranks Types g.ty)) ∙ e) but_indices l c

    origin_at : (n : ℕ) (f : FuncCode) → slice_get olds_of n ≡ Some f → has n ≡ true → (i : ImportValue) → read f ≡ Some i → HasFuncOrigin (origin n) i
    origin_at n f at k i e =
        let l = (and_parts (live (Funcs, n)) _ k).0 in
        let r = was_read set v exports live parts found n f l at in
        origin_by n r.func i r.at l (sym (ap read r.is) ∙ e) (is_realloc_at (decode v) n) refl

    kept_one : (n : ℕ) (f : FuncCode) → live (Funcs, n) ≡ true → slice_get olds_of n ≡ Some f → is_imported f ≡ true → has n ≡ true
    kept_one n f l at i = rw (l, at) i

    all_there : (n p : ℕ) → live (Funcs, n) ≡ true → position n ≡ Some p → is_realloc_at (decode v) n ≡ false
        → Contains (origins_of read origin has 0 olds_of) (Some p)
    all_there n p l e none =
        let x = imported_item_at (List ℕ) func_of Funcs func_space v.imports v.funcs h n p e in
        let r = from_at (List ℕ) func_of Funcs func_space v.imports v.funcs h n x.0 x.1 x.2 in
        let f = edited_at set v exports live parts found n x.0 in
        let old = old_at set v exports live parts found n x.0 l x.1 in
        let ty = ranks Types x.0.ty in
        let made : ImportValue = record { module_name = r.value.module_name; name = r.value.name; ty = Func ty } in
        let reads : read f ≡ Some made = stays n x.0.def (sym (realloc_is n x.0 x.1) ∙ none) x.2 ty ∙ ap (import_by (Func ty)) r.def in
        let yes : is_imported f ≡ true = sym (seen_imported (new_body ranks) f.def) ∙ import_is (Func ty) (def_seen (new_body ranks) f.def) made reads in
        let start : 0 + n ≡ n = omega arith in
        subst (Contains (origins_of read origin has 0 olds_of)) (ap origin start ∙ (ap (λ c. cond c None (position n)) none ∙ e))
        (kept_there read origin has olds_of 0 n f made old (ap has start ∙ kept_one n f l old yes) reads)

    pub func_part : IsPart bytes required v live all s decides set Funcs (origins_of read origin has 0 olds_of)
        (imports_of Func (map (new_func ranks) (kept_imports set v exports live parts found)))
    func_part = record {
      each = subst (AllZip HasFuncOrigin (origins_of read origin has 0 olds_of))
          (ap (filter_map read) (sym (kept_is has olds_of))
          ∙ sym (imports_mapped Func (new_func ranks) read (λ f. refl) (kept_imports set v exports live parts found)))
          (kept_zip read origin has HasFuncOrigin olds_of 0 (λ n f at. let start : n ≡ 0 + n = omega arith in
          subst (λ k. has k ≡ true → (i : ImportValue) → read f ≡ Some i → HasFuncOrigin (origin k) i) start (origin_at n f at)));
      distinct = kept_pairs read origin has AreDistinct
          (λ n k l. none_or (is_realloc_at (decode v) n) (is_realloc_at (decode v) k) (position n) (position k)
          (origins_differ (positions_from Funcs 0 v.imports) (rising Funcs v.imports 0) n k l)) olds_of 0;
      there = λ n p l e none. all_there n p l e none;
    }

  -- functions that are added, and those that are defined

  abbrev renew : FuncCode → ItemValue ℕ BodyValue
  renew = new_func ranks

  abbrev pub AddedOrigins : Option ℕ → ImportValue → Type 0
  AddedOrigins o i = HasOrigin set.realloc v trimmed o i × (o ≡ None)

  realloc_at : (b : Bool) (o : Bool) → b ≡ true
      → slice_get (only_if b realloc_type ++ (only_if parts.lazy empty_type ++ (only_if parts.growing realloc_type ++ only_if o empty_type))) 0
      ≡ Some realloc_type
  realloc_at true o h = refl
  realloc_at false o h = absurd cc

  added_type_at : parts.import_realloc ≡ true → slice_get image.types (ranks Types (length v.types)) ≡ Some realloc_type
  added_type_at h =
      let kept = kept_in live Types v.types in
      let new_kept = map (renumber_func_type ranks) kept in
      let T = length v.types in
      let start : T ≡ T + 0 = omega arith in
      let index = ap (ranks Types) start ∙ added_type set v exports live parts found 0 in
      let count = length-map kept (renumber_func_type ranks) ∙ kept_count (λ k. live (Types, k)) v.types in
      let rank_is : ranks Types T ≡ length new_kept + 0 = omega (arith, index, count) in
      ap (slice_get image.types) rank_is
      ∙ (get_back new_kept (added_types parts found) 0 ∙ realloc_at parts.import_realloc (parts.start && is_empty found.empties) h)

  some_name : (o : Option (List ℕ)) (a b : Bool) → (is_some o && a && b) ≡ true → o ≡ Some (unwrap_or o [])
  some_name None a b h = absurd cc
  some_name (Some name) a b h = refl

  main_import : parts.import_realloc ≡ true
      → IsMainImport set.realloc trimmed (record { module_name = main_module; name = unwrap_or set.realloc []; ty = Func (ranks Types (length v.types)) })
  main_import h = record {
    from = refl;
    name = some_name set.realloc (is_any found.stacks) (is_empty found.reallocs) h;
    func = realloc_type;
    ty = ap (option_map func_item) (added_type_at h);
  }

  added_by : (b : Bool) → parts.import_realloc ≡ b
      → AllZip AddedOrigins (only_if b None) (imports_of Func (map renew (only_if b (import_func (length v.types) set))))
  added_by true h = ((main_import h, refl), tt)
  added_by false h = tt

  pub added_imports : AllZip AddedOrigins (only_if parts.import_realloc None) (imports_of Func (map renew edit_of.imports))
  added_imports = added_by parts.import_realloc refl

  no_added : (a b c : Bool) → imports_of Func
      (map renew (only_if a (lazy_func (length v.types) (length (decode v).funcs) parts found) ++ (only_if b (growing_func (length v.types) set parts found)
      ++ only_if c (start_func (length v.types) (length (decode v).funcs) parts found)))) ≡ []
  no_added true true true = refl
  no_added true true false = refl
  no_added true false true = refl
  no_added true false false = refl
  no_added false true true = refl
  no_added false true false = refl
  no_added false false true = refl
  no_added false false false = refl

  defined_one : (n : ℕ) (f : FuncCode) → is_kept_defined edit_of n ≡ true → slice_get olds_of n ≡ Some f → is_imported (renew f) ≡ false
  defined_one n f k at =
      seen_imported (new_body ranks) f.def ∙ not-true (is_imported f) (sym (ap (λ o. option_map_or (λ (f : FuncCode). is_defined f) o false) at)
      ∙ (and_parts (live (Funcs, n)) _ k).1)

  no_defined : imports_of Func (map renew (kept_defined set v exports live parts found)) ≡ []
  no_defined =
      let P : ItemValue ℕ BodyValue → Type 0 = λ f. is_imported f ≡ false in
      let kept = kept_defined set v exports live parts found in
      none_imported Func (map renew kept)
      (recursion_from_All P (map renew kept)
      (All-map P renew kept (all_kept (λ f. P (renew f)) (is_kept_defined edit_of) olds_of defined_one (length olds_of))))

  -- the imported functions of the image
  pub func_imports : imports_of Func image.funcs ≡ imports_of Func (map renew (kept_imports set v exports live parts found)) ++ imports_of Func
      (map renew edit_of.imports)
  func_imports =
      let read = λ (f : ItemValue ℕ BodyValue). import_by (Func f.ty) f.def in
      let one = map renew (kept_imports set v exports live parts found) in
      let two = map renew edit_of.imports in
      let three = map renew (kept_defined set v exports live parts found) in
      let four = map renew edit_of.funcs in
      filter_map-append read one (two ++ (three ++ four))
      ∙ ap (λ z. filter_map read one ++ z) (filter_map-append read two (three ++ four)
      ∙ (ap (λ z. filter_map read two ++ z) (filter_map-append read three four
      ∙ (ap (λ z. z ++ filter_map read four) no_defined ∙ no_added parts.lazy parts.growing parts.start)) ∙ append-nil (filter_map read two)))
