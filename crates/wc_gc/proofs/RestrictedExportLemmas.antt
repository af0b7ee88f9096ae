-- The exports of a trimmed adapter are those of the adapter that are required, with their types.
use Rattle.std.proofs.Common.{◌≡◌, ◌≢◌, ℕ, ◌+◌, ◌-◌, ◌<◌, List, [], ◌∷◌, ◌++◌, length, map, set, get_or, refl, sym, ◌∙◌, ap, subst, Bool, true, false, not, Option, Some, None, ◌⊎◌, inl, inr, arith}
use Rattle.std.specs.Prelude.{All, Contains, IsTrue, fold, position}
use Rattle.std.specs.List.{AllByRecursion, slice_get, swap_remove}
use Rattle.std.specs.Option.{option_and_then, option_map, option_map_or}
use Rattle.std.specs.Str.{bytes_eq}
use Rattle.std.proofs.lemmas.Bool.{false≢true, lt-ltb}
use Rattle.std.proofs.lemmas.Bool.Decides.{eqb_tells}
use Rattle.std.proofs.lemmas.List.{get_or-set_other, get_or-set_same, get_or-take, length-map, length-set, length-take-le, get_or_default}
use Rattle.std.proofs.lemmas.List.Elements.{All-contains, All-contains_itself, All-head, All-map, All-tail, All-weaker, filter_passes, recursion_from_All}
use Rattle.std.proofs.lemmas.List.Folds.{list_any_at}
use Rattle.std.proofs.lemmas.List.Quantifiers.{position-Some}
use Rattle.std.proofs.lemmas.Option.{slice_get-map, slice_get_within}
use Rattle.wc_read.specs.Bodies.{BodyValue}
use Rattle.wc_read.specs.Exports.{ExportValue}
use Rattle.wc_read.specs.Items.{ItemValue, FuncValue, GlobalValue, MemoryValue, TableValue}
use Rattle.wc_read.specs.Modules.{ModuleValue, SpellsModule, count_of}
use Rattle.wc_read.specs.Renumbering.{Renumbering, renumber_func_type}
use Rattle.wc_read.specs.declared.exports.ExportKind.{ExportKind}
use Rattle.wc_read.specs.declared.exports.ExportKind.TheVariants as export
use Rattle.wc_read.specs.declared.operators.Space.TheVariants.{Types, Funcs, Tables, Memories, Globals}
use Rattle.wc_write.specs.Bodies.{body_text}
use Rattle.wc_read.specs.Items.{item_seen}
use Rattle.wc_write.specs.BuiltValues.{written_module}
use Rattle.wc_write.specs.Modules.{BuiltValue, operators_text}
use Rattle.wc_write.specs.Values.{AreBytes}
use Rattle.wc_gc.specs.Causes.{DecidesLive}
use Rattle.wc_gc.specs.Counts.{count_below}
use Rattle.wc_read.specs.Decoded.{FuncCode, ItemIndex, decode, is_in, space_of}
use Rattle.wc_gc.specs.Edit.{EditedModule, added_types}
use Rattle.wc_gc.specs.EditedImage.{count_imports, is_kept_defined, is_kept_import}
use Rattle.wc_read.specs.Entries.{entry_refs}
use Rattle.wc_gc.specs.Found.{FoundView, found_in}
use Rattle.wc_gc.specs.Image.{new_export, new_func, new_table, rank}
use Rattle.wc_gc.specs.Exports.{dropped_names, export_names, is_required, kept_exports, without}
use Rattle.wc_gc.specs.Parts.{SettingsView, parts_of}
use Rattle.wc_gc.specs.RestrictionLaws.{AreSameTypesButIndices, IsNewExport, IsOldExport, export_type, func_item, global_item, memory_item, table_item}
use Rattle.wc_gc.specs.declared.parts.Parts.{Parts}
use Rattle.wc_graph.proofs.ListLemmas.{back_at as get_back}
use Rattle.wc_gc.proofs.SameButIndicesLemmas.{same_under, func_item_under, item_under}
use Rattle.wc_gc.proofs.BuiltImageLemmas.{func_at, kept_in}
use Rattle.wc_gc.proofs.BuiltPartLemmas.{all_at, global_written}
use Rattle.wc_gc.proofs.EditedIndexLemmas.{cond_has, edited, edited_at, import_or_defined, kept_defined, kept_imports, new, old_at, old_new, old_type, olds}
use Rattle.wc_gc.proofs.ExportLemmas.{all_kept}
use Rattle.wc_graph.proofs.ListLemmas.{get_some}
use Rattle.wc_gc.proofs.KeptItemLemmas.{kept_count, rank_at}
use Rattle.wc_gc.proofs.KeptExportLemmas.{pairs_named}
use Rattle.wc_graph.proofs.ListLemmas.{contains_mapped}
use Rattle.wc_gc.proofs.LiveItemLemmas.{named_kept}
use Rattle.wc_gc.proofs.RequiredExportLemmas.{kept_required}
use Rattle.wc_gc.proofs.TrimmedTextLemmas.{edited_value, live_are_kept}
use Rattle.wc_graph.proofs.ListLemmas.{get_front}

-- an export of a required name is kept

module _ {A : Type 0} (xs : List A) (i : ℕ) (d x : A) (below : i < length xs) (other : get_or xs i x ≢ x) where
  abbrev last : ℕ
  last = length xs - 1

  abbrev after : List A
  after = set xs i (get_or xs last d)

  bounded_after : length (swap_remove xs i d) ≡ last
  bounded_after = length-take-le last after (let l = length-set xs i (get_or xs last d) in omega (arith, l))

  there_at : (k : ℕ) → k ≢ i → k < length xs → get_or xs k x ≡ x → (k ≡ last) ⊎ (k ≢ last) → Contains (swap_remove xs i d) x
  there_at k differs h e (inl is) =
      let bounded = bounded_after in
      let front : i < last = (let back : i ≢ last = (λ j. differs (is ∙ sym j)) in omega arith) in (
        i,
        omega (arith, bounded, front),
        get_or-take last after i x front
            ∙ (get_or-set_same xs i (get_or xs last d) x below ∙ (get_or_default xs last d x (omega (arith, below)) ∙ (ap (λ j. get_or xs j x) (sym is) ∙ e))),
      )
  there_at k differs h e (inr before) =
      let bounded = bounded_after in
      let front : k < last = omega arith in
      (k, omega (arith, bounded, front), get_or-take last after k x front ∙ (get_or-set_other xs i k (get_or xs last d) x differs ∙ e))

  still_there : Contains xs x → Contains (swap_remove xs i d) x
  still_there c =
      there_at c.0 (λ same. other (ap (λ j. get_or xs j x) (sym same) ∙ c.2)) c.1 c.2 (elim (eqb_tells c.0 last) [ inl a ↦ inl a.1 | inr b ↦ inr b.1 ])

there_or : (xs : List ExportValue) (x d : ExportValue) (test : ExportValue → Bool) → test x ≡ false → Contains xs x → (o : Option ℕ)
    → position test xs ≡ o → Contains (option_map_or (λ i. swap_remove xs i d) o xs) x
there_or xs x d test h c None e = c
there_or xs x d test h c (Some i) e =
    let found = position-Some test xs i x e in
    still_there xs i d x found.0 (λ same. false≢true (sym h ∙ (ap test (sym same) ∙ found.1))) c

there_without : (es : List ExportValue) (name : List ℕ) (x : ExportValue) → bytes_eq name x.name ≡ false → Contains es x → Contains (without es name) x
there_without [] name x h c = c
there_without (e ∷ es) name x h c = there_or (e ∷ es) x e (λ y. bytes_eq name y.name) h c (position (λ y. bytes_eq name y.name) (e ∷ es)) refl

there_fold : (names : List (List ℕ)) (es : List ExportValue) (x : ExportValue) → All (λ name. bytes_eq name x.name ≡ false) names → Contains es x
    → Contains (fold without es names) x
there_fold [] es x all c = c
there_fold (n ∷ names) es x all c =
    there_fold names (without es n) x (All-tail (λ name. bytes_eq name x.name ≡ false) n names all)
    (there_without es n x (All-head (λ name. bytes_eq name x.name ≡ false) n names all) c)

-- a name that is not required is another than one that is
other_name : (required : List (List ℕ)) (name : List ℕ) → Contains required name → (n : List ℕ) → not (is_required required n) ≡ true → bytes_eq n name ≡ false
other_name required name c n h = by (bytes_eq n name) refl
  where
    by : (b : Bool) → bytes_eq n name ≡ b → b ≡ false
    by true e =
        let yes : is_required required n ≡ true = list_any_at (bytes_eq n) required c.0 name c.1 (ap (bytes_eq n) c.2 ∙ e) in
        absurd (false≢true (sym (ap not yes) ∙ h))
    by false e = refl

required_there : (required : List (List ℕ)) (es : List ExportValue) (x : ExportValue) → Contains es x → Contains required x.name
    → Contains (kept_exports required es) x
required_there required es x c h =
    there_fold (dropped_names required es) es x
    (All-weaker (λ n. not (is_required required n) ≡ true) (λ n. bytes_eq n x.name ≡ false) (other_name required x.name h) (dropped_names required es)
    (filter_passes (λ n. not (is_required required n)) (export_names es))) c

module _ (bytes : List ℕ) (required : List (List ℕ)) (v : ModuleValue) (live : ItemIndex → Bool) (all : AreBytes bytes) (s : SpellsModule bytes v)
    (decides : DecidesLive required v live) (set : SettingsView) where
  abbrev pub exports : List ExportValue
  exports = kept_exports required v.exports

  abbrev pub found : FoundView
  found = found_in (decode v) live

  abbrev pub parts : Parts
  parts = parts_of set found

  abbrev pub edit_of : EditedModule
  edit_of = edited set v exports live parts found

  abbrev pub ranks : Renumbering
  ranks = new set v exports live parts found

  abbrev pub image : BuiltValue
  image = edited_value bytes required v live all s decides set

  abbrev pub trimmed : ModuleValue
  trimmed = written_module image

  -- items of the adapter that are live are there at their ranks

  pub func_typed : (n : ℕ) (g : FuncValue) → slice_get v.funcs n ≡ Some g → g.ty < length v.types
  func_typed n g at = all_at (λ (f : FuncValue). f.ty < length v.types) v.funcs n g
      (recursion_from_All (λ (f : FuncValue). f.ty < length v.types) v.funcs s.has_sections.valid.typed) at

  pub type_live : (n : ℕ) (g : FuncValue) → live (Funcs, n) ≡ true → slice_get v.funcs n ≡ Some g → live (Types, g.ty) ≡ true
  type_live n g l at =
      let kept = live_are_kept bytes required v live all s decides in
      let refs = subst (λ z. AllByRecursion (λ y. IsTrue (is_in (decode v) y) → IsTrue (live y)) (entry_refs z)) (func_at v n g at)
      (named_kept (decode v) live kept.named (Funcs, n) l) in
      refs.0 (lt-ltb g.ty (length v.types) (func_typed n g at))

  pub type_same : (n : ℕ) → n < length v.types → live (Types, n) ≡ true
      → slice_get image.types (ranks Types n) ≡ option_map (renumber_func_type ranks) (slice_get v.types n)
  type_same n h l =
      let t = get_some v.types n h in
      let renew = renumber_func_type ranks in
      let kept = kept_in live Types v.types in
      ap (slice_get image.types) (old_type set v exports live parts found n h)
      ∙ (get_front (map renew kept) (added_types parts found) (rank live Types n) (renew t.0)
      (slice_get-map renew kept (rank live Types n) ∙ ap (option_map renew) (rank_at (λ k. live (Types, k)) v.types n t.0 t.1 l))
      ∙ sym (ap (option_map renew) t.1))

  abbrev renew : FuncCode → ItemValue ℕ BodyValue
  renew = new_func ranks

  abbrev old_funcs : List FuncCode
  old_funcs = olds set v exports live parts found

  abbrev A : List FuncCode
  A = kept_imports set v exports live parts found

  abbrev D : List FuncCode
  D = kept_defined set v exports live parts found

  func_after : (n : ℕ) (h : FuncCode) → live (Funcs, n) ≡ true → slice_get old_funcs n ≡ Some h → is_kept_import edit_of n ≡ false
      → slice_get image.funcs (count_imports edit_of + length edit_of.imports + count_below (is_kept_defined edit_of) n) ≡ Some (renew h)
  func_after n h l at none =
      let defined : is_kept_defined edit_of n ≡ true = elim (import_or_defined set v exports live parts found n h l at) [
        | inl y ↦
            absurd (false≢true (sym none ∙ y))
        | inr d ↦ d
      ] in
      let k = count_below (is_kept_defined edit_of) n in
      let front = map renew A in
      let middle = map renew edit_of.imports in
      let back = map renew D in
      let end = map renew edit_of.funcs in
      let long = length-map A renew in
      let wide = length-map edit_of.imports renew in
      let count = kept_count (is_kept_import edit_of) old_funcs in
      let rank_is : count_imports edit_of + length edit_of.imports + k ≡ length front + (length middle + k) = omega (arith, long, wide, count) in
      ap (slice_get image.funcs) rank_is ∙ (get_back front (middle ++ (back ++ end)) (length middle + k) ∙ (get_back middle (back ++ end) k
      ∙ get_front back end k (renew h) (slice_get-map renew D k ∙ ap (option_map renew) (rank_at (is_kept_defined edit_of) old_funcs n h at defined))))

  pub func_at_rank : (n : ℕ) (g : FuncValue) → live (Funcs, n) ≡ true → slice_get v.funcs n ≡ Some g
      → slice_get image.funcs (ranks Funcs n) ≡ Some (renew (edited_at set v exports live parts found n g))
  func_at_rank n g l at =
      let h = edited_at set v exports live parts found n g in
      let old = old_at set v exports live parts found n g l at in
      let k = count_below (is_kept_import edit_of) n in
      ap (slice_get image.funcs) (old_new set v exports live parts found n (slice_get_within v.funcs n g at))
      ∙ cond_has (λ (k : ℕ). slice_get image.funcs k ≡ Some (renew h)) (is_kept_import edit_of n) k
      (count_imports edit_of + length edit_of.imports + count_below (is_kept_defined edit_of) n)
      (λ i. get_front (map renew A) (map renew edit_of.imports ++ (map renew D ++ map renew edit_of.funcs)) k (renew h)
      (slice_get-map renew A k ∙ ap (option_map renew) (rank_at (is_kept_import edit_of) old_funcs n h old i)))
      (λ i. func_after n h l old i)

  -- and so have their types

  export_under : (kind : ExportKind) (n : ℕ) → n < count_of v kind → live (space_of kind, n) ≡ true
      → export_type trimmed kind (ranks (space_of kind) n) ≡ option_map (item_under ranks) (export_type v kind n)
  export_under export.Func n h l =
      let g = get_some v.funcs n h in
      let new_type = λ (f : FuncValue). option_map func_item (slice_get image.types f.ty) in
      let old_type = λ (f : FuncValue). option_map func_item (slice_get v.types f.ty) in
      let at = slice_get-map (item_seen body_text) image.funcs (ranks Funcs n) ∙ ap (option_map (item_seen body_text)) (func_at_rank n g.0 l g.1) in
      ap (option_and_then new_type) at
      ∙ (ap (option_map func_item) (type_same g.0.ty (func_typed n g.0 g.1) (type_live n g.0 l g.1))
      ∙ (func_item_under ranks (slice_get v.types g.0.ty) ∙ sym (ap (λ o. option_map (item_under ranks) (option_and_then old_type o)) g.1)))
  export_under export.Table n h l =
      let t = get_some v.tables n h in
      let ty = λ (t : TableValue). table_item t.ty in
      let kept = kept_in live Tables v.tables in
      let r = count_below (λ k. live (Tables, k)) n in
      let at = slice_get-map (new_table ranks) kept r ∙ ap (option_map (new_table ranks)) (rank_at (λ k. live (Tables, k)) v.tables n t.0 t.1 l) in
      ap (option_map ty) at ∙ sym (ap (λ o. option_map (item_under ranks) (option_map ty o)) t.1)
  export_under export.Memory n h l =
      let t = get_some v.memories n h in
      let ty = λ (t : MemoryValue). memory_item t.ty in
      ap (option_map ty) (rank_at (λ k. live (Memories, k)) v.memories n t.0 t.1 l)
      ∙ sym (ap (λ o. option_map (item_under ranks) (option_map ty o)) t.1)
  export_under export.Global n h l =
      let g = get_some v.globals n h in
      let ty = λ (g : GlobalValue). global_item g.ty in
      let kept = kept_in live Globals v.globals in
      let r = count_below (λ k. live (Globals, k)) n in
      let written = slice_get-map (global_written ranks) kept r
      ∙ ap (option_map (global_written ranks)) (rank_at (λ k. live (Globals, k)) v.globals n g.0 g.1 l) in
      ap (option_map ty) (slice_get-map (item_seen operators_text) image.globals r ∙ ap (option_map (item_seen operators_text)) written)
      ∙ sym (ap (λ o. option_map (item_under ranks) (option_map ty o)) g.1)

  kept_same : (e : ExportValue) → Contains exports e
      → AreSameTypesButIndices (export_type v e.kind e.index) (export_type trimmed e.kind (ranks (space_of e.kind) e.index))
  kept_same e c =
      let kept = live_are_kept bytes required v live all s decides in
      let there = all_kept (λ x. x.index < count_of v x.kind) required v.exports s.has_sections.valid.exported in
      same_under ranks (export_type v e.kind e.index) (export_type trimmed e.kind (ranks (space_of e.kind) e.index))
      (export_under e.kind e.index (All-contains (λ x. x.index < count_of v x.kind) exports e there c) (kept.exported e c))

  pub old_exports : All (IsOldExport v trimmed) trimmed.exports
  old_exports =
      All-map (IsOldExport v trimmed) (new_export ranks) exports
      (All-weaker (Contains exports) (λ e. IsOldExport v trimmed (new_export ranks e)) each exports (All-contains_itself exports))
    where
      each : (e : ExportValue) → Contains exports e → IsOldExport v trimmed (new_export ranks e)
      each e c =
          let old = all_kept (Contains v.exports) required v.exports (All-contains_itself v.exports) in
          (e, All-contains (Contains v.exports) exports e old c, record { name = refl; kind = refl; ty = kept_same e c })

  pub new_exports : (x : ExportValue) → Contains v.exports x → Contains required x.name → IsNewExport v trimmed x
  new_exports x c h =
      let kept = required_there required v.exports x c h in
      (new_export ranks x, contains_mapped (new_export ranks) exports x kept, record { name = refl; kind = refl; ty = kept_same x kept })

  pub new_export_names : All (λ y. Contains required y.name) trimmed.exports
  new_export_names =
      let named = pairs_named (λ (e : ExportValue). e.name) v.exports s.has_sections.valid.distinct in
      All-map (λ y. Contains required y.name) (new_export ranks) exports
      (All-weaker (Contains exports) (λ e. Contains required e.name) (kept_required required v.exports named) exports (All-contains_itself exports))
