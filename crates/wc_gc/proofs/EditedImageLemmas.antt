-- The image of an edited adapter that was read.
use Rattle.std.proofs.Common.{◌≡◌, ℕ, ◌+◌, ◌-◌, List, [], ◌∷◌, ◌++◌, length, map, refl, sym, ◌∙◌, ap, Bool, true, false, not, ◌&&◌, ◌||◌, cond, Option, Some}
use Rattle.std.proofs.Common.{None, IsTrue, arith}
use Rattle.std.specs.Prelude.{⊤, nat_lt, is_some}
use Rattle.std.specs.List.{enumerate_from, slice_get}
use Rattle.std.specs.Option.{option_map, option_map_or}
use Rattle.std.specs.Borrow.{Bor}
use Rattle.std.proofs.Math.Path.{fun_ext}
use Rattle.std.proofs.lemmas.List.{length-map}
use Rattle.std.proofs.lemmas.List.FromFn.{length-enumerate_from}
use Rattle.std.proofs.lemmas.Option.{slice_get-map}
use Rattle.std.proofs.lemmas.Bool.{and_parts}
use Rattle.wc_read.specs.Types.{FuncTypeValue, func_type_value}
use Rattle.wc_read.specs.Exports.{ExportValue}
use Rattle.wc_read.specs.Operators.{InstrValue}
use Rattle.wc_read.specs.Bodies.{BodyValue}
use Rattle.wc_read.specs.BodyOperators.{body_in, init_in}
use Rattle.wc_read.specs.Items.{DefValue, imported, local, ItemValue, func_value, global_value, table_value, memory_value}
use Rattle.wc_read.specs.Renumbering.{Renumbering, renumber_func_type}
use Rattle.wc_read.specs.declared.core_module.Module.{Module}
use Rattle.wc_read.specs.declared.items.Item.{Item}
use Rattle.wc_read.specs.declared.types.GlobalType.{GlobalType}
use Rattle.wc_read.specs.declared.types.TableType.{TableType}
use Rattle.wc_read.specs.declared.types.MemoryType.{MemoryType}
use Rattle.wc_read.specs.declared.operators.Space.{Space}
use Rattle.wc_read.specs.declared.operators.Space.TheVariants.{Types, Funcs, Tables, Memories, Globals}
use Rattle.wc_write.specs.BuiltValues.{is_defined, is_imported}
use Rattle.wc_read.specs.Items.{item_seen}
use Rattle.wc_gc.specs.Bits.{bit_of}
use Rattle.wc_gc.specs.Counts.{count_below}
use Rattle.wc_read.specs.Decoded.{FuncCode, ItemIndex, decoded_module, func_code, global_code, size_of}
use Rattle.wc_gc.specs.Edit.{EditedModule, added_funcs, added_imports, added_types, growing_code, edited_by, edited_func, edited_funcs, is_exported_func}
use Rattle.wc_gc.specs.Edit.{start_of}
use Rattle.wc_gc.specs.EditedImage.{edited_image, edited_rank, is_kept_defined, is_kept_import}
use Rattle.wc_gc.specs.Private.Edit.{AreCoded, edited_of, edited_at, found_of, funcs_added, funcs_of, imports_added, live_funcs, new_funcs, new_indices, settings_of}
use Rattle.wc_gc.specs.Private.Edit.{types_of}
use Rattle.wc_gc.specs.Found.{FoundView, is_realloc, main_module}
use Rattle.wc_gc.specs.Private.FuncGroups.{AreGroups, has_func, is_import_after, is_in_group}
use Rattle.wc_gc.specs.Image.{kept_items, new_export, new_func, new_global, new_table}
use Rattle.wc_gc.specs.NewIndices.{AreRanksOf, new_of}
use Rattle.wc_gc.specs.Parts.{SettingsView}
use Rattle.wc_gc.specs.Ranks.{has_number}
use Rattle.wc_gc.specs.InRange.{is_item_in_range}
use Rattle.wc_gc.specs.declared.edit.Edit.{Edit}
use Rattle.wc_gc.specs.declared.func_groups.FuncGroups.{FuncGroups}
use Rattle.wc_gc.specs.declared.new_indices.NewIndices.{NewIndices}
use Rattle.wc_gc.specs.declared.parts.Parts.{Parts}
use Rattle.wc_gc.proofs.FoundLemmas.{size_is}
use Rattle.wc_gc.proofs.ImageLemmas.{enumerated, enumerated_map, kept_mapped, live_coded, map_twice}
use Rattle.wc_gc.proofs.KeptItemLemmas.{kept_from, kept_is}
use Rattle.wc_gc.proofs.TypeTestLemmas.{added_types_stay}

-- a function that was edited is imported where it was, but for a realloc that becomes a growing realloc

import_after : (funcs : ℕ) (s : SettingsView) (p : Parts) (f : FoundView) (exported : Bool) (d : DefValue (Option BodyValue)) (ty : ℕ)
    → is_imported (edited_func funcs s p f true exported (record { ty = ty; def = d })) ≡ is_import_after s (record { ty = ty; def = d })
import_after funcs s p f exported (local b) ty = refl
import_after funcs s p f exported (imported m n) ty = by (is_realloc {C = ℕ} (imported m n)) s.realloc
  where
    by : (b : Bool) (r : Option (List ℕ))
        → is_imported (record { ty = ty; def = cond b (option_map_or (λ name. imported main_module name) r (growing_code s f)) (imported m n) })
        ≡ (is_some r || not b)
    by true None = refl
    by true (Some name) = refl
    by false None = refl
    by false (Some name) = refl

funcs_read : (a : Module) → (decoded_module a).funcs ≡ map func_code a.funcs.items
unfolding decoded_module
funcs_read a = map_twice func_value (item_seen body_in) a.funcs.items

types_read : (a : Module) → (decoded_module a).types ≡ map func_type_value a.types.items
unfolding decoded_module
types_read a = refl

and_same : (b x y : Bool) → (b ≡ true → x ≡ y) → (b && x) ≡ (b && y)
and_same true x y h = h refl
and_same false x y h = refl

module _ (exports : List ExportValue) (s : SettingsView) (p : Parts) (f : FoundView) where
  pub edited_length : (live : ItemIndex → Bool) (funcs : List FuncCode) → length (edited_funcs exports live s p f funcs) ≡ length funcs
  edited_length live funcs = length-map (enumerate_from 0 funcs) _ ∙ length-enumerate_from 0 funcs

  module _ (a : Module) (live : ItemIndex → Bool) where
    -- what a test says of the reached function at an index, where an edit leaves what it says alone
    test_edited : (test : FuncCode → Bool) (after : FuncCode → Bool)
        → ((funcs : ℕ) (exported : Bool) (x : FuncCode) → test (edited_func funcs s p f true exported x) ≡ after x)
        → (funcs : List (Item ℕ (Bor (List ℕ)))) (n : ℕ) → live (Funcs, n) ≡ true
        → option_map_or test (slice_get (edited_funcs exports live s p f (map func_code funcs)) n) false ≡ has_func after funcs n
    test_edited test after same funcs n l =
        ap (λ o. option_map_or test o false) (slice_get-map one (enumerate_from 0 (map func_code funcs)) n
        ∙ ap (option_map one) (enumerated 0 (map func_code funcs) n ∙ ap (option_map (λ x. (0 + n, x))) (slice_get-map func_code funcs n)))
        ∙ by (slice_get funcs n)
      where
        one : ℕ × FuncCode → FuncCode
        one x = edited_func (length (map func_code funcs)) s p f (live (Funcs, x.0)) (is_exported_func exports x.0) x.1

        reached : live (Funcs, 0 + n) ≡ true
        reached = ap (λ (k : ℕ). live (Funcs, k)) (let e : 0 + n ≡ n = omega arith in e) ∙ l

        by : (o : Option (Item ℕ (Bor (List ℕ))))
            → option_map_or test (option_map one (option_map (λ (x : FuncCode). (0 + n, x)) (option_map func_code o))) false
            ≡ option_map_or (λ f. after (func_code f)) o false
        by None = refl
        by (Some x) =
            let exported = is_exported_func exports (0 + n) in
            ap (λ (b : Bool). test (edited_func (length (map func_code funcs)) s p f b exported (func_code x))) reached
            ∙ same (length (map func_code funcs)) exported (func_code x)

    group_same : (test after : FuncCode → Bool)
        → ((funcs : ℕ) (exported : Bool) (x : FuncCode) → test (edited_func funcs s p f true exported x) ≡ after x) → (n : ℕ)
        → (live (Funcs, n) && option_map_or test (slice_get (edited_funcs exports live s p f (decoded_module a).funcs) n) false)
        ≡ (live (Funcs, n) && has_func after a.funcs.items n)
    group_same test after same n =
        ap (λ (fs : List FuncCode). live (Funcs, n) && option_map_or test (slice_get (edited_funcs exports live s p f fs) n) false) (funcs_read a)
        ∙ and_same (live (Funcs, n)) _ _ (test_edited test after same a.funcs.items n)

    pub imports_same : (n : ℕ) → is_kept_import (edited_by s (decoded_module a) exports live p f) n
        ≡ (live (Funcs, n) && has_func (is_in_group s true) a.funcs.items n)
    imports_same n = group_same is_imported (is_in_group s true) (λ k b x. import_after k s p f b x.def x.ty) n

    pub defined_same : (n : ℕ) → is_kept_defined (edited_by s (decoded_module a) exports live p f) n
        ≡ (live (Funcs, n) && has_func (is_in_group s false) a.funcs.items n)
    defined_same n = group_same is_defined (is_in_group s false) (λ k b x. ap not (import_after k s p f b x.def x.ty)) n

-- live functions are imported, or have code

pub group_coded : (a : Module) (live : ℕ → Bool) (test : FuncCode → Bool) (has : ℕ → Bool)
    → ((n : ℕ) → IsTrue (live n) → is_item_in_range (decoded_module a) (Funcs, n) ≡ true)
    → ((n : ℕ) → has n ≡ (live n && has_func test a.funcs.items n)) → AreCoded has a.funcs.items
group_coded a live test has in_range same n f h at = live_coded a n f (in_range n (and_parts (live n) (has_func test a.funcs.items n) (sym (same n) ∙ h)).0) at

-- new indices are ranks

abbrev pub type_index : ℕ → (ℕ → Bool) → ℕ → ℕ → ℕ
type_index all has size x = cond (nat_lt x size) (count_below has x) (all + (x - size))

abbrev pub func_index : ℕ → ℕ → (ℕ → Bool) → (ℕ → Bool) → ℕ → ℕ → ℕ → ℕ
func_index is ds i d size added x =
    cond (nat_lt x size) (cond (i x) (count_below i x) (is + added + count_below d x)) (cond (nat_lt (x - size) added) (is + (x - size)) (is + ds + (x - size)))

module _ (e : EditedModule) (n : NewIndices) (i d : ℕ → Bool) (ranks : AreRanksOf e.kept i d n.ranks) (is : i ≡ is_kept_import e) (ds : d ≡ is_kept_defined e)
    (types : n.counts.types ≡ length e.value.types) (funcs : n.counts.funcs ≡ length e.value.funcs) (added : n.counts.added_imports ≡ length e.imports) where
  new_type_is : (x : ℕ) → new_of n Types x ≡ edited_rank e Types x
  unfolding new_of
  new_type_is x =
      ap (λ k. type_index k (has_number n.ranks.types) n.counts.types x) n.types_counted
      ∙ (ap (λ (h : ℕ → Bool). type_index (count_below h n.counts.types) h n.counts.types x) ranks.types
      ∙ ap (λ (k : ℕ). type_index (count_below (λ y. e.kept (Types, y)) k) (λ y. e.kept (Types, y)) k x) types)

  new_func_is : (x : ℕ) → new_of n Funcs x ≡ edited_rank e Funcs x
  unfolding new_of
  new_func_is x =
      ap (λ k. func_index k n.live_defined (has_number n.ranks.imports) (has_number n.ranks.defined) n.counts.funcs n.counts.added_imports x) n.imports_counted
      ∙ (ap (λ k. func_index (count_below (has_number n.ranks.imports) n.counts.funcs) k (has_number n.ranks.imports)
      (has_number n.ranks.defined) n.counts.funcs n.counts.added_imports x) n.defined_counted
      ∙ (ap (λ (h : ℕ → Bool). func_index (count_below h n.counts.funcs) (count_below (has_number n.ranks.defined) n.counts.funcs) h
      (has_number n.ranks.defined) n.counts.funcs n.counts.added_imports x) (ranks.imports ∙ is)
      ∙ (ap (λ (h : ℕ → Bool). func_index (count_below (is_kept_import e) n.counts.funcs) (count_below h n.counts.funcs)
      (is_kept_import e) h n.counts.funcs n.counts.added_imports x) (ranks.defined ∙ ds)
      ∙ (ap (λ (k : ℕ). func_index (count_below (is_kept_import e) k) (count_below (is_kept_defined e) k) (is_kept_import e)
      (is_kept_defined e) k n.counts.added_imports x) funcs
      ∙ ap (λ (k : ℕ). func_index (count_below (is_kept_import e) (length e.value.funcs)) (count_below (is_kept_defined e) (length e.value.funcs))
      (is_kept_import e) (is_kept_defined e) (length e.value.funcs) k x) added))))

  new_is : (space : Space) (x : ℕ) → new_of n space x ≡ edited_rank e space x
  unfolding new_of
  new_is Types x = new_type_is x
  new_is Funcs x = new_func_is x
  new_is Tables x = ap (λ (h : ℕ → Bool). count_below h x) ranks.tables
  new_is Memories x = ap (λ (h : ℕ → Bool). count_below h x) ranks.memories
  new_is Globals x = ap (λ (h : ℕ → Bool). count_below h x) ranks.globals

  pub new_ranks : new_of n ≡ edited_rank e
  new_ranks = fun_ext (λ space. fun_ext (λ x. new_is space x))

-- items that are the same where they are kept

kept_equal : {A B : Type 0} (has : ℕ → Bool) (f g : ℕ × A → B) (xs : List A) → ((n : ℕ) (x : A) → has n ≡ true → f (n, x) ≡ g (n, x))
    → kept_items has (length xs) (map f (enumerate_from 0 xs)) ≡ kept_items has (length xs) (map g (enumerate_from 0 xs))
kept_equal {A} {B} has f g xs same =
    ap (λ (k : ℕ). kept_items has k (map f (enumerate_from 0 xs))) (long f)
    ∙ (kept_is has (map f (enumerate_from 0 xs)) ∙ (but_indices xs 0 ∙ (sym (kept_is has (map g (enumerate_from 0 xs)))
    ∙ sym (ap (λ (k : ℕ). kept_items has k (map g (enumerate_from 0 xs))) (long g)))))
  where
    long : (h : ℕ × A → B) → length xs ≡ length (map h (enumerate_from 0 xs))
    long h = sym (length-map (enumerate_from 0 xs) h ∙ length-enumerate_from 0 xs)

    step : (b : Bool) (x y : B) (us vs : List B) → (b ≡ true → x ≡ y) → us ≡ vs → cond b (x ∷ us) us ≡ cond b (y ∷ vs) vs
    step true x y us vs h e = ap (λ z. z ∷ us) (h refl) ∙ ap (λ zs. y ∷ zs) e
    step false x y us vs h e = e

    but_indices : (ys : List A) (k : ℕ) → kept_from has k (map f (enumerate_from k ys)) ≡ kept_from has k (map g (enumerate_from k ys))
    but_indices [] k = refl
    but_indices (y ∷ ys) k = step (has k) (f (k, y)) (g (k, y)) _ _ (same k y) (but_indices ys (k + 1))

-- the image, part by part

kept_once : {A B : Type 0} (f : A → B) (has : ℕ → Bool) (n k : ℕ) (xs : List A) → n ≡ k → map f (kept_items has n xs) ≡ kept_items has k (map f xs)
kept_once f has n k xs e = ap (λ (z : ℕ). map f (kept_items has z xs)) e ∙ sym (kept_mapped f has k xs)

kept_twice : {A B C D : Type 0} (new : C → D) (g : B → C) (f : A → B) (has : ℕ → Bool) (n k : ℕ) (xs : List A) → n ≡ k
    → map (λ x. new (g (f x))) (kept_items has n xs) ≡ map new (kept_items has k (map g (map f xs)))
kept_twice new g f has n k xs e =
    ap (λ (z : ℕ). map (λ x. new (g (f x))) (kept_items has z xs)) e
    ∙ (sym (map_twice f (λ y. new (g y)) (kept_items has k xs)) ∙ (sym (map_twice g new (map f (kept_items has k xs)))
    ∙ ap (λ ys. map new (map g ys)) (sym (kept_mapped f has k xs)) ∙ ap (map new) (sym (kept_mapped g has k (map f xs)))))

module _ (edit : Edit) (a : Module) (exports : List ExportValue) (live : ItemIndex → Bool)
    (indices : new_indices edit ≡ edited_rank (edited_of edit (decoded_module a) exports live))
    (types : types_of edit ≡ length a.types.items) (funcs : funcs_of edit ≡ length a.funcs.items) where
  -- a function of the adapter, edited where it is reached, under new indices
  abbrev edited_if : (ℕ → Bool) → ℕ × Item ℕ (Bor (List ℕ)) → ItemValue ℕ BodyValue
  edited_if exported x =
      new_func (new_indices edit)
      (edited_func (funcs_of edit) (settings_of edit) edit.parts (found_of edit) (live (Funcs, x.0)) (exported x.0) (func_code x.1))

  -- functions of the adapter, with their indices
  edited_read : (exported : ℕ → Bool) → ((n : ℕ) → exported n ≡ is_exported_func exports n)
      → map (edited_if exported) (enumerate_from 0 a.funcs.items)
      ≡ map (new_func (edited_rank (edited_of edit (decoded_module a) exports live))) (edited_of edit (decoded_module a) exports live).value.funcs
  edited_read exported same =
      let rank' = edited_rank (edited_of edit (decoded_module a) exports live) in
      let count : funcs_of edit ≡ length (map func_code a.funcs.items) = funcs ∙ sym (length-map a.funcs.items func_code) in
      let read : ℕ → ℕ × FuncCode → FuncCode =
      λ k x. edited_func k (settings_of edit) edit.parts (found_of edit) (live (Funcs, x.0)) (is_exported_func exports x.0) x.1 in
      let all = length (map func_code a.funcs.items) in
      let one = λ (k : ℕ) (h : ℕ → Bool) (r : Renumbering) (x : ℕ × Item ℕ (Bor (List ℕ))).
      new_func r (edited_func k (settings_of edit) edit.parts (found_of edit) (live (Funcs, x.0)) (h x.0) (func_code x.1)) in
      ap (λ (r : Renumbering). map (one (funcs_of edit) exported r) (enumerate_from 0 a.funcs.items)) indices
      ∙ (ap (λ (h : ℕ → Bool). map (one (funcs_of edit) h rank') (enumerate_from 0 a.funcs.items)) (fun_ext same)
      ∙ (ap (λ (k : ℕ). map (one k (is_exported_func exports) rank') (enumerate_from 0 a.funcs.items)) count
      ∙ (sym (map_twice (λ x. (x.0, func_code x.1)) (λ (x : ℕ × FuncCode). new_func rank' (read all x)) (enumerate_from 0 a.funcs.items))
      ∙ (ap (map (λ (x : ℕ × FuncCode). new_func rank' (read all x))) (sym (enumerated_map func_code 0 a.funcs.items))
      ∙ (sym (map_twice (read all) (new_func rank') (enumerate_from 0 (map func_code a.funcs.items)))
      ∙ ap (λ (fs : List FuncCode). map (new_func rank') (edited_funcs exports live (settings_of edit) edit.parts (found_of edit) fs))
      (sym (funcs_read a)))))))

  -- those in a set
  live_read : (exported has kept : ℕ → Bool) → ((n : ℕ) → exported n ≡ is_exported_func exports n) → ((n : ℕ) → has n ≡ kept n)
      → ((n : ℕ) → kept n ≡ true → live (Funcs, n) ≡ true)
      → live_funcs edit has exported a.funcs.items
      ≡ map (new_func (edited_rank (edited_of edit (decoded_module a) exports live)))
      (kept_items kept (length (edited_of edit (decoded_module a) exports live).value.funcs) (edited_of edit (decoded_module a) exports live).value.funcs)
  live_read exported has kept same is lives =
      let e = edited_of edit (decoded_module a) exports live in
      let count : length a.funcs.items ≡ length e.value.funcs =
      sym (length-map a.funcs.items func_code)
      ∙ (ap length (sym (funcs_read a)) ∙ sym (edited_length exports (settings_of edit) edit.parts (found_of edit) live (decoded_module a).funcs)) in
      kept_equal has (edited_at edit exported) (edited_if exported) a.funcs.items
      (λ n x h. sym (ap (λ (b : Bool). new_func (new_indices edit)
      (edited_func (funcs_of edit) (settings_of edit) edit.parts (found_of edit) b (exported n) (func_code x))) (lives n (sym (is n) ∙ h))))
      ∙ (ap (kept_items has (length a.funcs.items)) (edited_read exported same)
      ∙ (ap (λ (h : ℕ → Bool). kept_items h (length a.funcs.items) (map (new_func (edited_rank e)) e.value.funcs)) (fun_ext is)
      ∙ (ap (λ (k : ℕ). kept_items kept k (map (new_func (edited_rank e)) e.value.funcs)) count
      ∙ kept_mapped (new_func (edited_rank e)) kept (length e.value.funcs) e.value.funcs)))

  -- those that are added
  imports_read : new_funcs edit (imports_added edit) ≡ map (new_func (edited_rank (edited_of edit (decoded_module a) exports live)))
      (edited_of edit (decoded_module a) exports live).imports
  imports_read =
      ap (λ (r : Renumbering). map (new_func r) (imports_added edit)) indices
      ∙ ap (λ (k : ℕ). map (new_func (edited_rank (edited_of edit (decoded_module a) exports live))) (added_imports k (settings_of edit) edit.parts))
      (types ∙ sym (size_is a Types))

  added_read : new_funcs edit (funcs_added edit) ≡ map (new_func (edited_rank (edited_of edit (decoded_module a) exports live)))
      (edited_of edit (decoded_module a) exports live).funcs
  added_read =
      ap (λ (r : Renumbering). map (new_func r) (funcs_added edit)) indices
      ∙ (ap (λ (k : ℕ). map (new_func (edited_rank (edited_of edit (decoded_module a) exports live)))
      (added_funcs k (funcs_of edit) (settings_of edit) edit.parts (found_of edit))) (types ∙ sym (size_is a Types))
      ∙ ap (λ (k : ℕ). map (new_func (edited_rank (edited_of edit (decoded_module a) exports live)))
      (added_funcs (length (decoded_module a).types) k (settings_of edit) edit.parts (found_of edit))) (funcs ∙ sym (size_is a Funcs)))

  pub edited_image_is : {L : Type 0} (has : L → ℕ → Bool) (g : FuncGroups L) → AreGroups has (settings_of edit) a.funcs.items (λ n. live (Funcs, n)) exports g
      → (ts : List FuncTypeValue)
      → ts ≡ map (renumber_func_type (new_indices edit)) (kept_items (λ n. live (Types, n)) (length a.types.items) (map func_type_value a.types.items))
      ++ added_types edit.parts (found_of edit)
      → (fs : List (ItemValue ℕ BodyValue)) → fs ≡ live_funcs edit (has g.imports) (bit_of g.exported.words.items) a.funcs.items
      ++ (new_funcs edit (imports_added edit) ++ (live_funcs edit (has g.defined) (bit_of g.exported.words.items) a.funcs.items ++ new_funcs edit (funcs_added edit)))
      → (tables bs : List (Item TableType ⊤)) → bs ≡ kept_items (λ n. live (Tables, n)) (length a.tables.items) a.tables.items
      → map table_value tables ≡ map (new_table (new_indices edit)) (map table_value bs)
      → (ms : List (Item MemoryType ⊤)) → ms ≡ kept_items (λ n. live (Memories, n)) (length a.memories.items) a.memories.items
      → (globals : List (ItemValue GlobalType (List InstrValue))) (gs : List (Item GlobalType (Bor (List ℕ))))
      → gs ≡ kept_items (λ n. live (Globals, n)) (length a.globals.items) a.globals.items
      → globals ≡ map (λ g. new_global (new_indices edit) (global_code g)) gs
      → (exps : List ExportValue) → exps ≡ map (new_export (new_indices edit)) exports
      → (start : Option ℕ) → start ≡ option_map (new_indices edit Funcs) (start_of (funcs_of edit) edit.parts)
      → record {
        types = ts;
        funcs = fs;
        tables = map table_value tables;
        memories = map memory_value ms;
        globals = globals;
        exports = exps;
        start = start;
        producers = option_map (λ b. b.now) a.producers;
      }
      ≡ edited_image (edited_of edit (decoded_module a) exports live)
  unfolding edited_image decoded_module
  edited_image_is has g groups ts t fs f tables bs bk bn ms m globals gs gk gn exps x start s =
      let e = edited_of edit (decoded_module a) exports live in
      let r = edited_rank e in
      let s' = settings_of edit in
      let old_types : ℕ → List FuncTypeValue = λ k. kept_items (λ n. live (Types, n)) k (map func_type_value a.types.items) in
      let t2 = t ∙ (ap (λ (r : Renumbering). map (renumber_func_type r) (old_types (length a.types.items)) ++ added_types edit.parts (found_of edit)) indices
      ∙ (ap (λ (k : ℕ). map (renumber_func_type r) (old_types k) ++ added_types edit.parts (found_of edit)) (sym (size_is a Types))
      ∙ ap (λ ts. map (renumber_func_type r) (old_types (size_of (decoded_module a) Types)) ++ ts) (sym (added_types_stay r edit.parts (found_of edit))))) in
      let i2 = live_read (bit_of g.exported.words.items) (has g.imports) (is_kept_import e) groups.exported (λ n. groups.imports n
      ∙ sym (imports_same exports s' edit.parts (found_of edit) a live n))
      (λ n h. (and_parts (live (Funcs, n)) _ h).0) in
      let d2 = live_read (bit_of g.exported.words.items) (has g.defined) (is_kept_defined e) groups.exported (λ n. groups.defined n
      ∙ sym (defined_same exports s' edit.parts (found_of edit) a live n))
      (λ n h. (and_parts (live (Funcs, n)) _ h).0) in
      let f2 = f ∙ (ap (λ z. z ++ (new_funcs edit (imports_added edit) ++ (live_funcs edit (has g.defined) (bit_of g.exported.words.items) a.funcs.items
      ++ new_funcs edit (funcs_added edit)))) i2
      ∙ ap (λ z. map (new_func r) (kept_items (is_kept_import e) (length e.value.funcs) e.value.funcs) ++ z)
      (ap (λ z. z ++ (live_funcs edit (has g.defined) (bit_of g.exported.words.items) a.funcs.items ++ new_funcs edit (funcs_added edit))) imports_read
      ∙ ap (λ z. map (new_func r) e.imports ++ z) (ap (λ z. z ++ new_funcs edit (funcs_added edit)) d2
      ∙ ap (λ z. map (new_func r) (kept_items (is_kept_defined e) (length e.value.funcs) e.value.funcs) ++ z) added_read))) in
      let b2 = bn ∙ (ap (λ (r : Renumbering). map (new_table r) (map table_value bs)) indices ∙ ap (map (new_table r)) (ap (map table_value) bk
      ∙ kept_once table_value (λ n. live (Tables, n)) (length a.tables.items) (size_of (decoded_module a) Tables) a.tables.items (sym (size_is a Tables)))) in
      let m2 = ap (map memory_value) m ∙ kept_once memory_value (λ n. live (Memories, n)) (length a.memories.items)
      (size_of (decoded_module a) Memories) a.memories.items (sym (size_is a Memories)) in
      let g2 = gn ∙ (ap (λ (r : Renumbering). map (λ g. new_global r (global_code g)) gs) indices ∙ (ap (map (λ g. new_global r (global_code g))) gk
      ∙ kept_twice (new_global r) (item_seen init_in) global_value (λ n. live (Globals, n)) (length a.globals.items)
      (size_of (decoded_module a) Globals) a.globals.items (sym (size_is a Globals)))) in
      let e2 = x ∙ ap (λ (r : Renumbering). map (new_export r) exports) indices in
      let s2 = s ∙ (ap (λ (r : Renumbering). option_map (r Funcs) (start_of (funcs_of edit) edit.parts)) indices
      ∙ ap (λ (k : ℕ). option_map (r Funcs) (start_of k edit.parts)) (funcs ∙ sym (size_is a Funcs))) in
      rw (t2, f2, b2, m2, g2, e2, s2) refl
