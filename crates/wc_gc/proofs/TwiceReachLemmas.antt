-- In a cut all items are reached by its exports, and code that is reached stays in range.
use Rattle.std.proofs.Common.{◌≡◌, ℕ, List, [], ◌∷◌, map, refl, sym, ◌∙◌, ap, subst, Bool, true, false, ◌&&◌, not, Option, Some, None, arith, ◌<◌, length, ltb-true}
use Rattle.std.specs.Prelude.{Contains, IsTrue}
use Rattle.std.specs.List.{AllByRecursion, list_all, slice_get}
use Rattle.std.specs.Option.{option_map, option_map_or}
use Rattle.std.proofs.lemmas.Bool.{false≢true, lt-ltb, and_parts}
use Rattle.std.proofs.lemmas.Option.{slice_get-map}
use Rattle.wc_read.specs.Bodies.{BodyValue, local_types}
use Rattle.wc_read.specs.Exports.{ExportValue}
use Rattle.wc_read.specs.Items.{DefValue, imported, local, def_seen}
use Rattle.wc_read.specs.Names.{GlobalNameValue}
use Rattle.wc_read.specs.Operators.{InstrValue}
use Rattle.wc_read.specs.References.{names_segment}
use Rattle.wc_read.specs.Renumbering.{Renumbering, renumber_func_type, renumber_immediates, renumber_instr, renumber_item}
use Rattle.wc_read.specs.declared.operators.Space.{Space}
use Rattle.wc_read.specs.declared.operators.Space.TheVariants.{Types, Funcs, Tables, Memories, Globals}
use Rattle.wc_read.proofs.RenumberingLemmas.{segments_under}
use Rattle.wc_gc.specs.Counts.{count_below}
use Rattle.wc_gc.specs.Cut.{part_names}
use Rattle.wc_read.specs.Decoded.{DecodedModule, ItemIndex, exported_item, is_in, size_of}
use Rattle.wc_read.specs.Entries.{Entry, body_refs, code_body_refs, code_refs, def_refs, entry_at, entry_refs, func_entry, global_entry, instr_refs}
use Rattle.wc_read.specs.Entries.{memory_entry, no_entry, refs_in, table_entry, type_entry, val_type_refs}
use Rattle.wc_gc.specs.Image.{kept_items, new_export, new_table, rank, renumber_body, renumber_code}
use Rattle.wc_graph.specs.Reached.{IsPath}
use Rattle.wc_gc.specs.Reached.{IsReached}
use Rattle.wc_gc.specs.InRange.{is_operator_in_range, is_item_in_range, is_code_in_range, is_code_body_in_range, is_def_in_range, is_entry_in_range}
use Rattle.wc_gc.specs.TraceLaws.{AreClosed, CutIsReached}
use Rattle.wc_gc.specs.Unfolding.{renumber_entry, renumber_func, renumber_global}
use Rattle.wc_gc.proofs.BuiltPartLemmas.{each_weaker}
use Rattle.wc_graph.proofs.ListLemmas.{contains_unmapped, in_all, in_filter, get_some, contains_mapped, from_filter}
use Rattle.wc_gc.proofs.CutFoundLemmas.{cut, cut_is, funcs_kept, globals_kept, memories_kept, tables_kept, types_kept}
use Rattle.wc_gc.proofs.CutListLemmas.{split_all}
use Rattle.wc_gc.proofs.KeptItemLemmas.{rank_at}
use Rattle.wc_gc.proofs.RankLawLemmas.{fewer_below}
use Rattle.wc_gc.proofs.TwiceListLemmas.{of_rank}
use Rattle.wc_gc.proofs.UnfoldingLemmas.{entry_refs_under, instr_under, locals_under}

-- lists

all_mapped_pass : {A B : Type 0} (p : B → Bool) (f : A → B) (xs : List A) → AllByRecursion (λ x. p (f x) ≡ true) xs → list_all p (map f xs) ≡ true
all_mapped_pass p f [] h = refl
all_mapped_pass p f (x ∷ xs) h = ap (λ b. b && list_all p (map f xs)) h.0 ∙ all_mapped_pass p f xs h.1

module _ (m : DecodedModule) (exports : List ExportValue) (live : ItemIndex → Bool) (k : AreClosed m exports live)
    (names : List GlobalNameValue) where
  -- the cut, with any names of globals
  abbrev pub named_cut : DecodedModule
  named_cut = record (cut m exports live) { global_names = names }

  abbrev r : Renumbering
  r = rank live

  abbrev moved : ItemIndex → ItemIndex
  moved = renumber_item r

  -- entries

  -- an item of a space that is renumbered
  seen_at : {A : Type 0} (entry : A → Entry) (f : A → A) → ((x : A) → entry (f x) ≡ renumber_entry r (entry x)) → (has : ℕ → Bool) (xs : List A) (n : ℕ)
      → n < length xs → has n ≡ true
      → option_map_or entry (slice_get (map f (kept_items has (length xs) xs)) (count_below has n)) no_entry
      ≡ renumber_entry r (option_map_or entry (slice_get xs n) no_entry)
  seen_at entry f same has xs n l h =
      let t = get_some xs n l in
      let kept = kept_items has (length xs) xs in
      ap (λ o. option_map_or entry o no_entry) (slice_get-map f kept (count_below has n) ∙ ap (option_map f) (rank_at has xs n t.0 t.1 h))
      ∙ (same t.0 ∙ sym (ap (λ o. renumber_entry r (option_map_or entry o no_entry)) t.1))

  pub entry_is : (x : ItemIndex) → live x ≡ true → entry_at named_cut (moved x) ≡ renumber_entry r (entry_at m x)
  entry_is (Types, n) h = seen_at type_entry (renumber_func_type r) (λ t. refl) (λ i. live (Types, i)) m.types n (k.there (Types, n) h) h
  entry_is (Funcs, n) h = seen_at func_entry (renumber_func r) (λ f. refl) (λ i. live (Funcs, i)) m.funcs n (k.there (Funcs, n) h) h
  entry_is (Tables, n) h = seen_at table_entry (new_table r) (λ t. refl) (λ i. live (Tables, i)) m.tables n (k.there (Tables, n) h) h
  entry_is (Memories, n) h =
      let t = get_some m.memories n (k.there (Memories, n) h) in
      ap (λ o. option_map_or memory_entry o no_entry) (rank_at (λ i. live (Memories, i)) m.memories n t.0 t.1 h)
      ∙ sym (ap (λ o. renumber_entry r (option_map_or memory_entry o no_entry)) t.1)
  entry_is (Globals, n) h = seen_at global_entry (renumber_global r) (λ g. refl) (λ i. live (Globals, i)) m.globals n (k.there (Globals, n) h) h

  refs_are : (x : ItemIndex) → live x ≡ true → entry_refs (entry_at named_cut (moved x)) ≡ map moved (entry_refs (entry_at m x))
  refs_are x h = ap entry_refs (entry_is x h) ∙ entry_refs_under r (entry_at m x)

  -- sizes of spaces
  kept_size : (space : Space) → size_of named_cut space ≡ rank live space (size_of m space)
  kept_size Types = types_kept m exports live
  kept_size Funcs = funcs_kept m exports live
  kept_size Tables = tables_kept m exports live
  kept_size Memories = memories_kept m exports live
  kept_size Globals = globals_kept m exports live

  pub moved_in : (x : ItemIndex) → live x ≡ true → is_in named_cut (moved x) ≡ true
  moved_in x h =
      let bounded = fewer_below (λ n. live (x.0, n)) x.1 (size_of m x.0) h (k.there x h) in
      let size = kept_size x.0 in
      lt-ltb (r x.0 x.1) (size_of named_cut x.0) (omega (arith, bounded, size))

  -- the item that came to this index
  pub of_item : (y : ItemIndex) → is_in named_cut y ≡ true → (x : ItemIndex) × (live x ≡ true) × (moved x ≡ y)
  of_item y h =
      let l = ltb-true y.1 (size_of named_cut y.0) h in
      let size = kept_size y.0 in
      let n = of_rank (λ n. live (y.0, n)) (size_of m y.0) y.1 (omega (arith, l, size)) in
      ((y.0, n.0), n.2, ap (λ (i : ℕ). let z : ItemIndex = (y.0, i) in z) n.3)

  -- paths

  live_next : (x z : ItemIndex) → live x ≡ true → Contains (refs_in m x) z → live z ≡ true
  live_next x z h c = in_all (λ y. live y ≡ true) (entry_refs (entry_at m x)) z (k.named x h) (from_filter (is_in m) (entry_refs (entry_at m x)) z c)

  next_moved : (x z : ItemIndex) → live x ≡ true → Contains (refs_in m x) z → Contains (refs_in named_cut (moved x)) (moved z)
  next_moved x z h c =
      in_filter (is_in named_cut) (entry_refs (entry_at named_cut (moved x))) (moved z)
      (subst (λ ys. Contains ys (moved z)) (sym (refs_are x h))
      (contains_mapped moved (entry_refs (entry_at m x)) z (from_filter (is_in m) (entry_refs (entry_at m x)) z c)))
      (moved_in z (live_next x z h c))

  path_moved : (x : ItemIndex) (path : List ItemIndex) (y : ItemIndex) → live x ≡ true → IsPath (refs_in m) x path y
      → IsPath (refs_in named_cut) (moved x) (map moved path) (moved y)
  path_moved x [] y h p = ap moved p
  path_moved x (z ∷ path) y h p = (next_moved x z h p.0, path_moved z path y (live_next x z h p.0) p.1)

  root_moved : (x : ItemIndex) → Contains (map exported_item exports) x
      → (live x ≡ true) × Contains (map exported_item (map (new_export r) exports)) (moved x)
  root_moved x c =
      let e = contains_unmapped exported_item exports x c in (
        ap live (sym e.2) ∙ in_all (λ e. live (exported_item e) ≡ true) exports e.0 k.exported e.1,
        subst (Contains (map exported_item (map (new_export r) exports))) (ap moved e.2)
            (contains_mapped exported_item (map (new_export r) exports) (new_export r e.0) (contains_mapped (new_export r) exports e.0 e.1)),
      )

  pub reached_moved : (x : ItemIndex) → IsReached m exports x → IsReached named_cut (cut m exports live).exports (moved x)
  reached_moved x a =
      let root = root_moved a.0 a.1 in
      (moved a.0, root.1, map moved a.2, path_moved a.0 a.2 x root.0 a.3)

  -- code in range

  abbrev IsLiveItem : ItemIndex → Type 0
  IsLiveItem y = live y ≡ true

  -- live items are in the cut
  all_moved_in : (xs : List ItemIndex) → AllByRecursion IsLiveItem xs → list_all (is_in named_cut) (map moved xs) ≡ true
  all_moved_in xs all =
      all_mapped_pass (is_in named_cut) moved xs (each_weaker IsLiveItem (λ y. is_in named_cut (moved y) ≡ true) xs moved_in all)

  instr_in_range : (i : InstrValue) → is_operator_in_range m i ≡ true → AllByRecursion IsLiveItem (instr_refs i)
      → is_operator_in_range named_cut (renumber_instr r i) ≡ true
  instr_in_range i h all =
      let both = and_parts (list_all (is_in m) (instr_refs i)) (not (names_segment i.immediates)) h in
      ap (λ ys. list_all (is_in named_cut) ys && not (names_segment (renumber_immediates r i.immediates))) (instr_under r i)
      ∙ (ap (λ b. b && not (names_segment (renumber_immediates r i.immediates))) (all_moved_in (instr_refs i) all)
      ∙ (ap not (segments_under r i.immediates) ∙ both.1))

  code_in_range : (is : List InstrValue) → is_code_in_range m is ≡ true → AllByRecursion IsLiveItem (code_refs is)
      → is_code_in_range named_cut (renumber_code r is) ≡ true
  code_in_range [] h all = refl
  code_in_range (i ∷ is) h all =
      let both = and_parts (is_operator_in_range m i) (is_code_in_range m is) h in
      let parts = split_all IsLiveItem (instr_refs i) (code_refs is) all in
      ap (λ b. b && is_code_in_range named_cut (renumber_code r is)) (instr_in_range i both.0 parts.0) ∙ code_in_range is both.1 parts.1

  body_in_range : (b : BodyValue) → is_code_body_in_range m b ≡ true → AllByRecursion IsLiveItem (code_body_refs b)
      → is_code_body_in_range named_cut (renumber_body r b) ≡ true
  body_in_range b h all =
      let types = val_type_refs (local_types b.locals) in
      let both = and_parts (list_all (is_in m) types) (is_code_in_range m b.operators) h in
      let parts = split_all IsLiveItem types (code_refs b.operators) all in
      ap (λ ys. list_all (is_in named_cut) ys && is_code_in_range named_cut (renumber_code r b.operators)) (locals_under r b.locals)
      ∙ (ap (λ c. c && is_code_in_range named_cut (renumber_code r b.operators)) (all_moved_in types parts.0) ∙ code_in_range b.operators both.1 parts.1)

  def_in_range : (d : DefValue (Option BodyValue)) → is_def_in_range m d ≡ true → AllByRecursion IsLiveItem (def_refs body_refs d)
      → is_def_in_range named_cut (def_seen (option_map (renumber_body r)) d) ≡ true
  def_in_range (imported a b) h all = refl
  def_in_range (local None) h all = absurd (false≢true h)
  def_in_range (local (Some b)) h all = body_in_range b h all

  entry_in_range : (e : Entry) → is_entry_in_range m e ≡ true → AllByRecursion IsLiveItem (entry_refs e) → is_entry_in_range named_cut (renumber_entry r e)
      ≡ true
  entry_in_range no_entry h all = refl
  entry_in_range (type_entry t) h all = refl
  entry_in_range (func_entry f) h all = def_in_range f.def h all.1
  entry_in_range (table_entry t) h all = refl
  entry_in_range (memory_entry t) h all = refl
  entry_in_range (global_entry g) h all = refl

  pub in_range_moved : (x : ItemIndex) → live x ≡ true → is_item_in_range m x ≡ true → is_item_in_range named_cut (moved x) ≡ true
  in_range_moved x h in_range = ap (is_entry_in_range named_cut) (entry_is x h) ∙ entry_in_range (entry_at m x) in_range (k.named x h)

pub cut_is_reached : CutIsReached
cut_is_reached m exports live k all y h =
    let x = of_item m exports live k (part_names m live) y (subst (λ d. IsTrue (is_in d y)) (cut_is m exports live) h) in
    subst (λ d. IsReached d d.exports y) (sym (cut_is m exports live))
    (subst (IsReached (cut m exports live) (cut m exports live).exports) x.2 (reached_moved m exports live k (part_names m live) x.0 (all x.0 x.1)))
