-- How many items the image of an edited adapter has, and where its memory is.
use Rattle.std.proofs.Common.{◌≡◌, ℕ, zero, suc, ◌+◌, ◌≤◌, List, [], ◌∷◌, ◌++◌, length, map, refl, sym, ◌∙◌, ap, Bool, true, false, ◌&&◌, cond, Some, ◌⊎◌}
use Rattle.std.proofs.Common.{inl, inr, arith, unwrap_or, Option, None}
use Rattle.std.specs.Prelude.{filter, not, Err, IsErrOf}
use Rattle.std.specs.Borrow.{Bor}
use Rattle.std.specs.List.{range_with_len, slice_get}
use Rattle.std.specs.Option.{option_map_or}
use Rattle.std.proofs.lemmas.List.{length-append, length-map}
use Rattle.std.proofs.lemmas.List.Elements.{filter-append}
use Rattle.std.proofs.lemmas.List.Sums.{length-filter}
use Rattle.wc_graph.proofs.ListLemmas.{get_some}
use Rattle.wc_read.specs.Exports.{ExportValue}
use Rattle.wc_read.specs.Renumbering.{renumber_func_type}
use Rattle.wc_read.specs.declared.core_module.Module.{Module}
use Rattle.wc_read.specs.declared.items.Item.{Item}
use Rattle.wc_read.specs.declared.operators.Space.TheVariants.{Types, Funcs, Memories}
use Rattle.wc_write.specs.Modules.{BuiltValue, SizesFit}
use Rattle.wc_write.specs.declared.fault.WriteFault.{WriteFault}
use Rattle.wc_write.specs.declared.fault.WriteFault.TheVariants.{Memory as write_memory, TooLarge as write_too_large}
use Rattle.wc_gc.specs.AddedCode.{empty_type, realloc_type}
use Rattle.wc_gc.specs.Counts.{AreDisjoint, count_below}
use Rattle.wc_read.specs.Decoded.{DecodedModule, ItemIndex, decoded_module, func_code, size_of}
use Rattle.wc_gc.specs.Edit.{EditedModule, added_types, edit, edited_by, growing_func, import_func, lazy_func, memory_of, one_if, only_if, start_func}
use Rattle.wc_gc.specs.Edit.{start_position}
use Rattle.wc_gc.specs.EditedImage.{FitsBits, count_defined, count_imports, edited_image, edited_rank, is_kept_defined, is_kept_import}
use Rattle.wc_gc.specs.Fault.{of_write}
use Rattle.wc_gc.specs.Found.{FoundView, found_in, is_empty}
use Rattle.wc_gc.specs.Image.{kept_items, new_func}
use Rattle.wc_gc.specs.NewIndices.{AreRanksOf, HasRoom, HasRoomFor, new_of}
use Rattle.wc_gc.specs.Parts.{SettingsView, parts_of}
use Rattle.wc_gc.specs.Private.FuncGroups.{AreGroups, is_in_group}
use Rattle.wc_gc.specs.Ranks.{has_number, rank_of}
use Rattle.wc_gc.specs.declared.fault.GcFault.{GcFault}
use Rattle.wc_gc.specs.declared.func_groups.FuncGroups.{FuncGroups}
use Rattle.wc_gc.specs.declared.fault.GcFault.TheVariants.{Memory, TooLarge}
use Rattle.wc_gc.specs.declared.new_indices.Counts.{Counts}
use Rattle.wc_gc.specs.declared.new_indices.NewIndices.{NewIndices}
use Rattle.wc_gc.specs.declared.new_indices.SpaceRanks.{SpaceRanks}
use Rattle.wc_gc.specs.declared.parts.Parts.{Parts}
use Rattle.wc_gc.proofs.EditedImageLemmas.{edited_length}
use Rattle.wc_gc.proofs.FoundLemmas.{size_is}
use Rattle.wc_gc.proofs.ImageLemmas.{kept_yes, kept_no}
use Rattle.wc_gc.proofs.RankLemmas.{one_more}
use Rattle.wc_graph.proofs.ListLemmas.{range_more}

-- what is added

pub only_length : {A : Type 0} (b : Bool) (x : A) → length (only_if b x) ≡ one_if b
only_length true x = refl
only_length false x = refl

pub two_added : {A : Type 0} (a b : Bool) (x y : A) → length (only_if a x ++ only_if b y) ≡ one_if a + one_if b
two_added true true x y = refl
two_added true false x y = refl
two_added false true x y = refl
two_added false false x y = refl

pub three_added : {A : Type 0} (a b c : Bool) (x y z : A) → length (only_if a x ++ (only_if b y ++ only_if c z)) ≡ one_if a + (one_if b + one_if c)
three_added a b c x y z = omega (arith, length-append (only_if a x) (only_if b y ++ only_if c z), only_length a x, two_added b c y z)

pub count_added_types : (p : Parts) (f : FoundView) → start_position p + one_if (p.start && is_empty f.empties) ≡ length (added_types p f)
count_added_types p f =
    let all = length-append (only_if p.import_realloc realloc_type)
    (only_if p.lazy empty_type ++ (only_if p.growing realloc_type ++ only_if (p.start && is_empty f.empties) empty_type)) in
    omega (
      arith,
      all,
      only_length p.import_realloc realloc_type,
      three_added p.lazy p.growing
          (p.start && is_empty f.empties) empty_type realloc_type empty_type,
    )

-- what is kept

one_kept : {A : Type 0} (has : ℕ → Bool) (n : ℕ) (xs : List A) (x : A) → slice_get xs n ≡ Some x → (b : Bool) → b ≡ has n
    → length (kept_items has (n + 1) xs) ≡ length (kept_items has n xs) + cond b 1 0
one_kept has n xs x at true h = ap length (kept_yes has n xs x at h) ∙ length-append (kept_items has n xs) (x ∷ [])
one_kept has n xs x at false h = omega (arith, ap length (kept_no has n xs h))

pub kept_length : {A : Type 0} (has : ℕ → Bool) (n : ℕ) (xs : List A) → n ≤ length xs → length (kept_items has n xs) ≡ count_below has n
kept_length has zero xs h = refl
kept_length has (suc n) xs h =
    let at = get_some xs n (omega arith) in
    let next = ap (λ k. length (kept_items has k xs)) (let e : suc n ≡ n + 1 = omega arith in e) in
    omega (arith, next, one_kept has n xs at.0 at.1 (has n) refl, kept_length has n xs (omega arith), one_more has n)

-- the first number of a set has none below it

first_after : (has : ℕ → Bool) (n : ℕ) (ns : List ℕ) → count_below has n ≡ length ns → count_below has (unwrap_or (slice_get ns 0) 0) ≡ 0
    → (b : Bool) → count_below has (unwrap_or (slice_get (ns ++ cond b (n ∷ []) []) 0) 0) ≡ 0
first_after has n [] count h true = count
first_after has n [] count h false = h
first_after has n (k ∷ ks) count h b = h

pub none_before_first : (has : ℕ → Bool) (size : ℕ) → count_below has (unwrap_or (slice_get (filter has (range_with_len 0 size)) 0) 0) ≡ 0
none_before_first has zero = refl
none_before_first has (suc n) =
    let e : 0 + n ≡ n = omega arith in
    let cut = ap (filter has) (range_more 0 n ∙ ap (λ k. range_with_len 0 n ++ k ∷ []) e) ∙ filter-append has (range_with_len 0 n) (n ∷ []) in
    ap (λ ns. count_below has (unwrap_or (slice_get ns 0) 0)) cut
    ∙ first_after has n (filter has (range_with_len 0 n)) (sym (length-filter has (range_with_len 0 n))) (none_before_first has n) (has n)

-- the edit by what was found

pub edit_is : (s : SettingsView) (m : DecodedModule) (exports : List ExportValue) (live : ItemIndex → Bool) (p : Parts) (f : FoundView)
    → f ≡ found_in m live → p ≡ parts_of s f → edited_by s m exports live p f ≡ edit s m exports live
unfolding edit
edit_is s m exports live p f e q = ap (λ (z : Parts). edited_by s m exports live z f) q ∙ ap (λ (z : FoundView). edited_by s m exports live (parts_of s z) z) e

pub memory_first : (n : NewIndices) (m : DecodedModule) (kept : ItemIndex → Bool) (f : FoundView) → f ≡ found_in m kept
    → has_number n.ranks.memories ≡ (λ k. kept (Memories, k)) → new_of n Memories (memory_of f) ≡ 0
unfolding new_of found_in
memory_first n m kept f e r =
    ap (λ (h : ℕ → Bool). count_below h (memory_of f)) r
    ∙ (ap (λ (z : FoundView). count_below (λ k. kept (Memories, k)) (memory_of z)) e ∙ none_before_first (λ k. kept (Memories, k)) (size_of m Memories))

-- whether there is room for what is live and what is added

module _ (kept : ItemIndex → Bool) (i d : ℕ → Bool) (r : SpaceRanks) (ranks : AreRanksOf kept i d r) (c : Counts) where
  types_same : rank_of r.types c.types ≡ count_below (λ n. kept (Types, n)) c.types
  types_same = ap (λ (h : ℕ → Bool). count_below h c.types) ranks.types

  imports_same : rank_of r.imports c.funcs ≡ count_below i c.funcs
  imports_same = ap (λ (h : ℕ → Bool). count_below h c.funcs) ranks.imports

  defined_same : rank_of r.defined c.funcs ≡ count_below d c.funcs
  defined_same = ap (λ (h : ℕ → Bool). count_below h c.funcs) ranks.defined

  pub room_for : HasRoom r c → HasRoomFor kept i d c
  room_for h = (omega (arith, types_same, h.0), omega (arith, imports_same, defined_same, h.1))

  pub room_of : HasRoomFor kept i d c → HasRoom r c
  room_of h = (omega (arith, types_same, h.0), omega (arith, imports_same, defined_same, h.1))

pub disjoint_ranks : (kept : ItemIndex → Bool) (i d : ℕ → Bool) (r : SpaceRanks) → AreRanksOf kept i d r → AreDisjoint i d
    → AreDisjoint (has_number r.imports) (has_number r.defined)
disjoint_ranks kept i d r ranks disjoint n h = ap (λ (g : ℕ → Bool). g n) ranks.defined ∙ disjoint n (sym (ap (λ (g : ℕ → Bool). g n) ranks.imports) ∙ h)

-- no live function is in two groups

apart : (s : SettingsView) (live : Bool) (f : Option (Item ℕ (Bor (List ℕ)))) → (live && option_map_or (λ g. is_in_group s true (func_code g)) f false) ≡ true
    → (live && option_map_or (λ g. is_in_group s false (func_code g)) f false) ≡ false
apart s false f e = refl
apart s true None e = refl
apart s true (Some g) e = ap not e

pub groups_apart : {L : Type 0} (has : L → ℕ → Bool) (s : SettingsView) (funcs : List (Item ℕ (Bor (List ℕ)))) (live : ℕ → Bool) (exports : List ExportValue) (g : FuncGroups L) → AreGroups has s funcs live exports g → AreDisjoint (has g.imports) (has g.defined)
groups_apart has s funcs live exports g groups n h = groups.defined n ∙ apart s (live n) (slice_get funcs n) (sym (groups.imports n) ∙ h)

-- how many types and functions the image has

module _ (e : EditedModule) where
  image_types : length (edited_image e).types ≡ count_below (λ n. e.kept (Types, n)) (length e.value.types) + length e.types
  unfolding edited_image
  image_types =
      let ks = kept_items (λ n. e.kept (Types, n)) (length e.value.types) e.value.types in
      let new = renumber_func_type (edited_rank e) in
      let many = kept_length (λ n. e.kept (Types, n)) (length e.value.types) e.value.types (omega arith) in
      omega (arith, length-append (map new ks) (map new e.types), length-map ks new, length-map e.types new, many)

  image_funcs : length (edited_image e).funcs ≡ count_imports e + (length e.imports + (count_defined e + length e.funcs))
  unfolding edited_image
  image_funcs =
      let size = length e.value.funcs in
      let new = new_func (edited_rank e) in
      let is = map new (kept_items (is_kept_import e) size e.value.funcs) in
      let ds = map new (kept_items (is_kept_defined e) size e.value.funcs) in
      omega (
        arith,
        length-append is (map new e.imports ++ (ds ++ map new e.funcs)),
        length-append (map new e.imports) (ds ++ map new e.funcs),
        length-append ds (map new e.funcs),
        length-map (kept_items (is_kept_import e) size e.value.funcs) new,
        length-map e.imports new,
        length-map (kept_items (is_kept_defined e) size e.value.funcs) new,
        length-map e.funcs new,
        kept_length (is_kept_import e) size e.value.funcs (omega arith),
        kept_length (is_kept_defined e) size e.value.funcs (omega arith),
      )

module _ (s : SettingsView) (a : Module) (exports : List ExportValue) (live : ItemIndex → Bool) (p : Parts) (f : FoundView) (i d : ℕ → Bool) (c : Counts)
    (is : i ≡ is_kept_import (edited_by s (decoded_module a) exports live p f)) (ds : d ≡ is_kept_defined (edited_by s (decoded_module a) exports live p f))
    (types : c.types ≡ length a.types.items) (funcs : c.funcs ≡ length a.funcs.items) (added_types : c.added_types ≡ length (added_types p f))
    (added_imports : c.added_imports ≡ one_if p.import_realloc) (added_funcs : c.added_funcs ≡ one_if p.lazy + (one_if p.growing + one_if p.start)) where
  counted_types : length (edited_image (edited_by s (decoded_module a) exports live p f)).types ≡ count_below (λ n. live (Types, n)) c.types + c.added_types
  counted_types =
      let e = edited_by s (decoded_module a) exports live p f in
      let size = ap (count_below (λ n. live (Types, n))) (types ∙ sym (size_is a Types)) in
      omega (arith, image_types e, size, added_types)

  counted_funcs : length (edited_image (edited_by s (decoded_module a) exports live p f)).funcs ≡ count_below i c.funcs + count_below d c.funcs
      + (c.added_imports + c.added_funcs)
  counted_funcs =
      let e = edited_by s (decoded_module a) exports live p f in
      let size : c.funcs ≡ length e.value.funcs = funcs ∙ (sym (size_is a Funcs) ∙ sym (edited_length exports s p f live (decoded_module a).funcs)) in
      let imports = ap (λ (h : ℕ → Bool). count_below h c.funcs) is ∙ ap (count_below (is_kept_import e)) size in
      let defined = ap (λ (h : ℕ → Bool). count_below h c.funcs) ds ∙ ap (count_below (is_kept_defined e)) size in
      let ones = only_length p.import_realloc (import_func (length (decoded_module a).types) s) in
      let rest = three_added p.lazy p.growing p.start (lazy_func (length (decoded_module a).types) (length (decoded_module a).funcs) p f)
      (growing_func (length (decoded_module a).types) s p f) (start_func (length (decoded_module a).types) (length (decoded_module a).funcs) p f) in
      omega (arith, image_funcs e, imports, defined, ones, rest, added_imports, added_funcs)

  pub fits_room : FitsBits (edited_image (edited_by s (decoded_module a) exports live p f)) → HasRoomFor live i d c
  fits_room b = (omega (arith, b.types, counted_types), omega (arith, b.funcs, counted_funcs))

  pub room_fits : HasRoomFor live i d c → SizesFit (edited_image (edited_by s (decoded_module a) exports live p f))
      → FitsBits (edited_image (edited_by s (decoded_module a) exports live p f))
  room_fits h sizes = record { types = omega (arith, h.0, counted_types); funcs = omega (arith, h.1, counted_funcs); sizes = sizes }

-- faults

pub no_room : (P Q : Type 0) → (Q → P) → (f : GcFault) → (f ≡ Memory) ⊎ ((f ≡ TooLarge) × ¬ P) → (f ≡ Memory) ⊎ ((f ≡ TooLarge) × ¬ Q)
no_room P Q give f (inl e) = inl e
no_room P Q give f (inr k) = inr (k.0, λ q. k.1 (give q))

pub not_written : {T : Type 0} (Q : Type 0) (b : BuiltValue) → (Q → SizesFit b) → (w : WriteFault)
    → (IsErrOf {T = T} (Err w) write_too_large → ¬ (SizesFit b)) → (of_write w ≡ Memory) ⊎ ((of_write w ≡ TooLarge) × ¬ Q)
not_written Q b give write_memory h = inl refl
not_written Q b give write_too_large h = inr (refl, λ q. h refl (give q))
