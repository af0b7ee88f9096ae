-- The functions of an edited adapter's image can be spelled.
use Rattle.std.proofs.Common.{◌≡◌, ℕ, ◌+◌, ◌-◌, ◌<◌, ◌≤◌, ◌^◌, List, [], ◌∷◌, ◌++◌, length, map, refl, sym, ◌∙◌, ap, subst, Bool, true, false, cond}
use Rattle.std.proofs.Common.{Option, Some, None, append_assoc, arith, lit<}
use Rattle.std.specs.Prelude.{IfSome, IsUtf8, ◌&&◌, nat_lt, unwrap_or}
use Rattle.std.specs.List.{AllByRecursion, slice_get}
use Rattle.std.specs.Option.{option_map, option_map_or}
use Rattle.std.proofs.lemmas.Bool.{eqb-true, le-ltb, not-true, and_parts}
use Rattle.std.proofs.lemmas.Str.{IsUtf8-from_ascii}
use Rattle.std.proofs.lemmas.List.{length-map, length-append, map-append}
use Rattle.std.proofs.lemmas.List.Elements.{All-map, All-from_recursion, recursion_from_All}
use Rattle.std.proofs.lemmas.Option.{slice_get-map, slice_get_within}
use Rattle.wc_read.specs.Bodies.{BodyValue, SpellsBody}
use Rattle.wc_read.specs.Types.{FuncTypeValue}
use Rattle.wc_read.specs.BodyOperators.{body_in, init_in, IsSpelled}
use Rattle.wc_read.specs.Exports.{ExportValue}
use Rattle.wc_read.specs.Imports.{ImportValue}
use Rattle.wc_read.specs.Items.{DefValue, imported, local, ItemValue, FuncValue}
use Rattle.wc_read.specs.Modules.{ModuleValue, IsModule}
use Rattle.wc_read.specs.Renumbering.{Renumbering, renumber_func_type, renumber_val_type}
use Rattle.wc_read.specs.declared.types.ImportType.TheVariants.{Func, Table, Memory, Global}
use Rattle.wc_read.specs.declared.operators.Space.TheVariants.{Types, Funcs, Memories, Globals}
use Rattle.wc_read.proofs.DecodingLemmas.{body_spelled}
use Rattle.wc_write.specs.Text.{FitsSize, import_text, name_text, import_type_text, number_text}
use Rattle.wc_write.specs.Values.{AreBytes, IsU32, IsName, IsImport, IsBody}
use Rattle.wc_write.specs.Spaces.{imports_of, import_by}
use Rattle.wc_write.specs.Modules.{BuiltValue, SizesFit, SizeFits, OptionalSection, built_imports, optional_sections}
use Rattle.wc_read.specs.Items.{def_seen, item_seen}
use Rattle.wc_write.specs.BuiltValues.{is_imported, is_defined, HasImportsFirst, IsWritable}
use Rattle.wc_write.proofs.ContentLemmas.{all_item_sizes_fit}
use Rattle.wc_write.proofs.ShortestBodyLemmas.{body_is}
use Rattle.wc_write.proofs.VectorTextLemmas.{back_shorter, front_shorter}
use Rattle.wc_gc.specs.AddedCode.{growing_body, stack_body, empty_type, realloc_type}
use Rattle.wc_read.specs.Decoded.{FuncCode, ItemIndex, decode}
use Rattle.wc_gc.specs.Edit.{EditedModule, added_funcs, added_imports, added_types, called_realloc, edited_body, edited_def, growing_code, growing_func}
use Rattle.wc_gc.specs.Edit.{growing_position, import_func, is_exported_func, lazy_func, lazy_position, memory_of, one_if, only_if, replaced, stack_of}
use Rattle.wc_gc.specs.Edit.{start_func, start_of, start_position, start_type, state_of, types_added, with_call}
use Rattle.wc_gc.specs.EditedImage.{count_defined, count_imports, is_kept_defined, is_kept_import}
use Rattle.wc_gc.specs.Found.{FoundView, found_in, is_empty, is_empty_type, is_empty_type_at, is_realloc, main_module}
use Rattle.wc_gc.specs.Image.{kept_items, new_body, new_func, rank}
use Rattle.wc_gc.specs.Laws.{AreSettings, KeepsBits}
use Rattle.wc_gc.specs.Parts.{SettingsView, first_of, last_of}
use Rattle.wc_gc.specs.InRange.{is_body_in_range, is_def_in_range}
use Rattle.wc_gc.specs.declared.parts.Parts.{Parts}
use Rattle.wc_gc.proofs.AddedBodyLemmas.{growing_is_body, stack_is_body}
use Rattle.wc_gc.proofs.AddedUnderLemmas.{called_is_body, first_has, first_rank, growing_under, last_has, main_is_name, members, stack_under}
use Rattle.wc_gc.proofs.BuiltImageLemmas.{AreFuncs, AreKept, AreInRange, IsStartOf, func_in_range, func_typed, kept_in, type_kept, types_written}
use Rattle.wc_gc.proofs.BuiltPartLemmas.{all_at, each_weaker, seen_imported}
use Rattle.wc_gc.proofs.EditedIndexLemmas.{added_bounded, added_new, added_type, cond_has, edited, funcs_written, kept_defined, kept_imports, new, new_keeps}
use Rattle.wc_gc.proofs.EditedIndexLemmas.{old_type, olds, was_read}
use Rattle.wc_gc.proofs.EditedTextLemmas.{only_length as only_count}
use Rattle.wc_gc.proofs.ImageLemmas.{all_kept}
use Rattle.wc_graph.proofs.ListLemmas.{back_at as get_back}
use Rattle.wc_gc.proofs.InitTypeLemmas.{all-right}
use Rattle.wc_gc.proofs.KeptItemLemmas.{kept_count, rank_at, two_kinds}
use Rattle.wc_graph.proofs.ListLemmas.{get_some}
use Rattle.wc_gc.proofs.SpellableLemmas.{body_stays}
use Rattle.wc_graph.proofs.ListLemmas.{get_front}
use Rattle.wc_gc.proofs.SpelledItemLemmas.{HasImport, IfLocal, HaveItems, all_give, all_given, all_joined}

-- names of imports are short, where the contents of sections are

abbrev HasShortName : ItemValue ℕ BodyValue → Type 0
HasShortName g = IfSome (import_by (Func g.ty) g.def) (λ i. FitsSize i.name)

name_short : (i : ImportValue) → length (import_text i) < 2 ^ 32 → FitsSize i.name
unfolding import_text
name_short i h =
    let rest = back_shorter (name_text i.module_name) (name_text i.name ++ import_type_text i.ty) (2 ^ 32) h in
    back_shorter (number_text (length i.name)) i.name (2 ^ 32) (front_shorter (name_text i.name) (import_type_text i.ty) (2 ^ 32) rest)

pub short_names : (b : BuiltValue) → SizesFit b → AllByRecursion HasShortName b.funcs
unfolding optional_sections
short_names b fits =
    let sections = recursion_from_All (λ (p : OptionalSection). SizeFits p.content) (optional_sections b) fits in
    let texts = recursion_from_All (λ (i : ImportValue). length (import_text i) < 2 ^ 32) (built_imports b)
    (all_item_sizes_fit import_text (built_imports b) sections.1.0) in
    let P : ImportValue → Type 0 = λ i. length (import_text i) < 2 ^ 32 in
    let one = all-right P (imports_of Memory b.memories) (imports_of Table b.tables ++ (imports_of Global b.globals ++ imports_of Func b.funcs)) texts in
    let two = all-right P (imports_of Table b.tables) (imports_of Global b.globals ++ imports_of Func b.funcs) one in
    let three = all-right P (imports_of Global b.globals) (imports_of Func b.funcs) two in
    all_give (λ (i : ImportValue). FitsSize i.name) (λ (g : ItemValue ℕ BodyValue). import_by (Func g.ty) g.def) b.funcs
    (each_weaker P (λ i. FitsSize i.name) (imports_of Func b.funcs) name_short three)

-- a function whose import, where it is one, has names that are text, and whose body, where it has one, can be spelled; its
-- type is one of these
abbrev HasText : ItemValue ℕ BodyValue → Type 0
HasText g = IfSome (import_by (Func g.ty) g.def) (λ i. IsName i.module_name × IsUtf8 i.name)

pub record IsWritten (types : List FuncTypeValue) (g : ItemValue ℕ BodyValue) : Type 0 where
  pub text : HasText g
  pub typed : g.ty < length types
  pub body : IfLocal IsBody g.def

import_from : (ty : ℕ) (d : DefValue BodyValue) → IsU32 ty → IfSome (import_by (Func ty) d) (λ i. IsName i.module_name × IsUtf8 i.name)
    → IfSome (import_by (Func ty) d) (λ i. FitsSize i.name) → IfSome (import_by (Func ty) d) IsImport
import_from ty (imported m n) fits text short = record { has_module = text.0; has_name = record { is_text = text.1; short = short }; has_type = fits }
import_from ty (local x) fits text short = tt

imports_from : (types : List FuncTypeValue) → length types < 2 ^ 32 → (gs : List (ItemValue ℕ BodyValue)) → AllByRecursion (IsWritten types) gs
    → AllByRecursion HasShortName gs → AllByRecursion (HasImport Func) gs
imports_from types bounded [] all short = tt
imports_from types bounded (g ∷ gs) all short =
    let typed = all.0.typed in
    (import_from g.ty g.def (omega (arith, typed, bounded)) all.0.text short.0, imports_from types bounded gs all.1 short.1)

-- functions that can be written, imports first
pub funcs_from : (types : List FuncTypeValue) (gs : List (ItemValue ℕ BodyValue)) → length types < 2 ^ 32 → length gs < 2 ^ 32
    → AllByRecursion (IsWritten types) gs → AllByRecursion HasShortName gs → HasImportsFirst gs → AreFuncs types gs
funcs_from types gs bounded room all short first = record {
  imports = All-from_recursion IsImport (imports_of Func gs) (all_given IsImport (λ (g : ItemValue ℕ BodyValue). import_by (Func g.ty) g.def) gs
      (imports_from types bounded gs all short));
  indices = All-from_recursion (λ (g : ItemValue ℕ BodyValue). IsU32 g.ty) gs
      (each_weaker (IsWritten types) (λ g. IsU32 g.ty) gs (λ g h. let typed = h.typed in omega (arith, typed, bounded)) all);
  typed = All-from_recursion (λ (g : ItemValue ℕ BodyValue). g.ty < length types) gs
      (each_weaker (IsWritten types) (λ g. g.ty < length types) gs (λ g h. h.typed) all);
  bodies = All-from_recursion (λ (g : ItemValue ℕ BodyValue). IfLocal IsBody g.def) gs
      (each_weaker (IsWritten types) (λ g. IfLocal IsBody g.def) gs (λ g h. h.body) all);
  ordered = first;
  bounded = room;
}

-- what is added or not

pub all_only : {A : Type 0} (P : A → Type 0) (b : Bool) (x : A) → (b ≡ true → P x) → AllByRecursion P (only_if b x)
all_only P true x h = (h refl, tt)
all_only P false x h = tt

pub types_count : (p : Parts) (none : Bool) → length (types_added p none) ≡ one_if p.import_realloc
    + (one_if p.lazy + (one_if p.growing + one_if (p.start && none)))
types_count p none =
    let a = only_count p.import_realloc realloc_type in
    let b = only_count p.lazy empty_type in
    let c = only_count p.growing realloc_type in
    let d = only_count (p.start && none) empty_type in
    let x = length-append (only_if p.growing realloc_type) (only_if (p.start && none) empty_type) in
    let y = length-append (only_if p.lazy empty_type) (only_if p.growing realloc_type ++ only_if (p.start && none) empty_type) in
    let z = length-append (only_if p.import_realloc realloc_type)
    (only_if p.lazy empty_type ++ (only_if p.growing realloc_type ++ only_if (p.start && none) empty_type)) in
    omega (arith, a, b, c, d, x, y, z)

pub funcs_count : (types funcs : ℕ) (s : SettingsView) (p : Parts) (f : FoundView) → length (added_funcs types funcs s p f) ≡ one_if p.lazy
    + (one_if p.growing + one_if p.start)
funcs_count types funcs s p f =
    let a = only_count p.lazy (lazy_func types funcs p f) in
    let b = only_count p.growing (growing_func types s p f) in
    let c = only_count p.start (start_func types funcs p f) in
    let x = length-append (only_if p.growing (growing_func types s p f)) (only_if p.start (start_func types funcs p f)) in
    let y = length-append (only_if p.lazy (lazy_func types funcs p f)) (only_if p.growing (growing_func types s p f) ++ only_if p.start
    (start_func types funcs p f)) in
    omega (arith, a, b, c, x, y)

last_type : (a b c : Bool) → slice_get (only_if a realloc_type ++ (only_if b empty_type ++ (only_if c realloc_type ++ only_if true empty_type)))
    ((one_if a + one_if b) + one_if c) ≡ Some empty_type
last_type true true true = refl
last_type true true false = refl
last_type true false true = refl
last_type true false false = refl
last_type false true true = refl
last_type false true false = refl
last_type false false true = refl
last_type false false false = refl

last_func : {A : Type 0} (b c : Bool) (x y z : A) → slice_get (only_if b x ++ (only_if c y ++ only_if true z)) (one_if b + one_if c) ≡ Some z
last_func true true x y z = refl
last_func true false x y z = refl
last_func false true x y z = refl
last_func false false x y z = refl

pub empty_is : {A : Type 0} (xs : List A) → is_empty xs ≡ true → xs ≡ []
empty_is [] h = refl
empty_is (x ∷ xs) h = absurd (let e = eqb-true (length (x ∷ xs)) 0 h in omega (arith, e))

utf8_or : (o : Option (List ℕ)) → IfSome o IsUtf8 → IsUtf8 (unwrap_or o [])
utf8_or None h = IsUtf8-from_ascii [] (λ i. lit< tt)
utf8_or (Some name) h = h

-- a list without a last item is empty
pub none_last : {A : Type 0} (xs : List A) → last_of xs ≡ None → is_empty xs ≡ true
none_last [] e = refl
none_last (x ∷ xs) e = let item = get_some (x ∷ xs) (length (x ∷ xs) - 1) (omega arith) in absurd (let bad : None ≡ Some item.0 = sym e ∙ item.1 in cc bad)

module _ (s : SettingsView) (m : ModuleValue) (exports : List ExportValue) (live : ItemIndex → Bool) (p : Parts) (set : AreSettings s)
    (w : IsWritable m) (items : HaveItems m) (v : IsModule m)
    (k : AreKept m exports live) (in_range : AreInRange m live) where
  abbrev found : FoundView
  found = found_in (decode m) live

  abbrev ranks : Renumbering
  ranks = new s m exports live p found

  abbrev types : List FuncTypeValue
  types = types_written m live ranks ++ added_types p found

  abbrev written : List (ItemValue ℕ BodyValue)
  written = funcs_written s m exports live p found

  abbrev T : ℕ
  T = length m.types

  abbrev L : ℕ
  L = length (decode m).funcs

  types_long : length types ≡ rank live Types T + length (added_types p found)
  types_long =
      let a = length-append (types_written m live ranks) (added_types p found) in
      let b = kept_count (λ n. live (Types, n)) m.types in
      let c = length-map (kept_in live Types m.types) (renumber_func_type ranks) in
      omega (arith, a, b, c)

  -- what was found

  size_globals : length (decode m).globals ≡ length m.globals
  size_globals = length-map m.globals (item_seen init_in)

  size_funcs : L ≡ length m.funcs
  size_funcs = length-map m.funcs (item_seen body_in)

  stack_small : IfSome (first_of found.stacks) IsU32
  unfolding found_in
  stack_small = first_has IsU32 found.stacks (each_weaker _ IsU32 found.stacks (λ n h. let l = size_globals in let bounded = v.bounded.globals in
      omega (arith, h.1, l, bounded)) (members _ (length (decode m).globals)))

  state_small : IfSome (first_of found.states) IsU32
  unfolding found_in
  state_small = first_has IsU32 found.states (each_weaker _ IsU32 found.states (λ n h. let l = size_globals in let bounded = v.bounded.globals in
      omega (arith, h.1, l, bounded)) (members _ (length (decode m).globals)))

  realloc_small : IfSome (last_of found.reallocs) IsU32
  unfolding found_in
  realloc_small = last_has IsU32 found.reallocs (each_weaker _ IsU32 found.reallocs (λ n h. let l = size_funcs in let bounded = v.bounded.funcs in
      omega (arith, h.1, l, bounded)) (members _ L))

  or_else : (P : ℕ → Type 0) (o : Option ℕ) (d : ℕ) → IfSome o P → P d → P (unwrap_or o d)
  or_else P None d h k = k
  or_else P (Some n) d h k = h

  -- the memory that grows is the first that is live
  memory_first : (o : Option ℕ) → first_of found.memories ≡ o → ranks Memories (unwrap_or o 0) ≡ 0
  unfolding found_in
  memory_first None e = refl
  memory_first (Some n) e = first_rank (λ n. live (Memories, n)) (length m.memories) n e

  memory_new : ranks Memories (memory_of found) ≡ 0
  memory_new = memory_first (first_of found.memories) refl

  growing_can : IsBody (new_body ranks (Some (growing_body s.page_size_log2 (memory_of found))))
  growing_can = subst IsBody (sym (growing_under ranks s.page_size_log2 (memory_of found) ∙ ap (growing_body s.page_size_log2) memory_new))
      (growing_is_body s.page_size_log2 set.bounded_bytes).0

  module _ (room : length written < 2 ^ 32) where
    keeps : KeepsBits ranks
    keeps = new_keeps s m exports live p found room

    imports_count : length (added_imports T s p) ≡ one_if p.import_realloc
    imports_count = only_count p.import_realloc (import_func T s)

    added_fits : (j : ℕ) → j ≤ one_if p.import_realloc + (one_if p.lazy + (one_if p.growing + one_if p.start)) → ranks Funcs (L + j) < 2 ^ 32
    added_fits j h =
        let a = imports_count in
        let b = funcs_count T L s p found in
        let at = added_new s m exports live p found j in
        let bounded = added_bounded s m exports live p found j (omega (arith, a, b, h)) in
        omega (arith, at, bounded, room)

    none_added : ranks Funcs L < 2 ^ 32
    none_added = subst (λ n. ranks Funcs n < 2 ^ 32) (let e : L + 0 ≡ L = omega arith in e) (added_fits 0 (omega arith))

    realloc_fits : ranks Funcs (called_realloc L p found) < 2 ^ 32
    realloc_fits =
        cond_has (λ n. ranks Funcs n < 2 ^ 32) p.growing (L + growing_position p) (unwrap_or (last_of found.reallocs) L)
        (λ i. added_fits (growing_position p) (omega arith)) (λ i. from_last (last_of found.reallocs) realloc_small)
      where
        from_last : (o : Option ℕ) → IfSome o IsU32 → ranks Funcs (unwrap_or o L) < 2 ^ 32
        from_last None h = none_added
        from_last (Some n) h = keeps Funcs n h

    stack_fits : ranks Globals (stack_of found) < 2 ^ 32
    stack_fits = keeps Globals (stack_of found) (or_else IsU32 (first_of found.stacks) 0 stack_small (lit< tt))

    state_fits : IfSome (option_map (ranks Globals) (state_of found)) IsU32
    state_fits = from (state_of found) state_small
      where
        from : (o : Option ℕ) → IfSome o IsU32 → IfSome (option_map (ranks Globals) o) IsU32
        from None h = tt
        from (Some n) h = keeps Globals n h

    stack_can : IsBody (new_body ranks (Some (stack_body (called_realloc L p found) (stack_of found) (state_of found))))
    stack_can =
        subst IsBody (sym (stack_under ranks (called_realloc L p found) (stack_of found) (state_of found)))
        (stack_is_body (ranks Funcs (called_realloc L p found)) (ranks Globals (stack_of found))
        (option_map (ranks Globals) (state_of found)) realloc_fits stack_fits state_fits).0

    -- functions that were there

    old_body_can : (bytes : List ℕ) → AreBytes bytes → (o : Option BodyValue) → IsSpelled SpellsBody bytes o → is_body_in_range (decode m) o ≡ true
        → (exported : Bool) → IsBody (new_body ranks (edited_body L p exported o))
    old_body_can bytes all None is h exported = absurd cc
    old_body_can bytes all (Some b) is h exported =
        let can = body_is bytes b all is in
        cond_has (λ (o : Option BodyValue). IsBody (new_body ranks o)) (p.lazy && exported) (Some (with_call (L + lazy_position p) b)) (Some b)
        (λ i. called_is_body ranks keeps (L + lazy_position p) (added_fits (lazy_position p) (omega arith)) b can) (λ i. body_stays ranks keeps b can)

    replaced_text : (ty : ℕ) (o : Option (List ℕ)) → IfSome o IsUtf8
        → IfSome (import_by (Func ty) (def_seen (new_body ranks) (option_map_or (λ name. imported main_module name) o (growing_code s found))))
        (λ i. IsName i.module_name × IsUtf8 i.name)
    replaced_text ty None h = tt
    replaced_text ty (Some name) h = (main_is_name, h)

    replaced_body : (o : Option (List ℕ))
        → IfLocal IsBody (def_seen (new_body ranks) (option_map_or (λ name. imported main_module name) o (growing_code s found)))
    replaced_body None = growing_can
    replaced_body (Some name) = tt

    old_text : (ty ty' : ℕ) (d : DefValue (List ℕ)) → IfSome (import_by (Func ty) d) IsImport → (exported : Bool)
        → IfSome (import_by (Func ty') (def_seen (new_body ranks) (edited_def L s p found true exported (def_seen body_in d))))
        (λ i. IsName i.module_name × IsUtf8 i.name)
    old_text ty ty' (imported a b) h exported =
        cond_has (λ (d : DefValue (Option BodyValue)). IfSome (import_by (Func ty') (def_seen (new_body ranks) d)) (λ i. IsName i.module_name × IsUtf8 i.name))
        (is_realloc {C = ℕ} (imported a b)) (replaced s found) (imported a b) (λ i. replaced_text ty' s.realloc set.name_is_text)
        (λ i. (h.has_module, h.has_name.is_text))
    old_text ty ty' (local bytes) h exported = tt

    old_def_can : (d : DefValue (List ℕ)) → IfLocal AreBytes d → is_def_in_range (decode m) (def_seen body_in d) ≡ true → (exported : Bool)
        → IfLocal IsBody (def_seen (new_body ranks) (edited_def L s p found true exported (def_seen body_in d)))
    old_def_can (imported a b) all h exported =
        cond_has (λ (d : DefValue (Option BodyValue)). IfLocal IsBody (def_seen (new_body ranks) d)) (is_realloc {C = ℕ} (imported a b))
        (replaced s found) (imported a b) (λ i. replaced_body s.realloc) (λ i. tt)
    old_def_can (local bytes) all h exported = old_body_can bytes all (body_in bytes) (body_spelled bytes) h exported

    old_typed : (n : ℕ) (g : FuncValue) → live (Funcs, n) ≡ true → slice_get m.funcs n ≡ Some g → ranks Types g.ty < length types
    old_typed n g l e =
        let below = func_typed m exports live w items v k in_range n g e in
        let r = type_kept m exports live w items v k in_range n g l e in
        let same = old_type s m exports live p found g.ty below in
        let all = length-append (types_written m live ranks) (added_types p found) in
        let as_many = length-map (kept_in live Types m.types) (renumber_func_type ranks) in
        omega (arith, same, r, all, as_many)

    old_written : (n : ℕ) (h : FuncCode) → live (Funcs, n) ≡ true → slice_get (olds s m exports live p found) n ≡ Some h → IsWritten types (new_func ranks h)
    old_written n h l e =
        let r = was_read s m exports live p found n h l e in
        let exported = is_exported_func exports n in
        subst (λ (z : FuncCode). IsWritten types (new_func ranks z)) (sym r.is) (record {
          text = old_text r.func.ty (ranks Types r.func.ty) r.func.def (all_at (HasImport Func) m.funcs n r.func items.funcs r.at) exported;
          typed = old_typed n r.func l r.at;
          body = old_def_can r.func.def (all_at (λ (f : FuncValue). IfLocal AreBytes f.def) m.funcs n r.func items.bodies r.at)
              (func_in_range m exports live w items v k in_range n r.func l r.at) exported;
        })

    -- functions that are added

    type_added : (j : ℕ) → j < one_if p.import_realloc + (one_if p.lazy + (one_if p.growing + one_if (p.start && is_empty found.empties)))
        → ranks Types (T + j) < length types
    type_added j h =
        let at = added_type s m exports live p found j in
        let count = types_count p (is_empty found.empties) in
        let all = types_long in
        omega (arith, at, count, all, h)

    import_written : p.import_realloc ≡ true → IsWritten types (new_func ranks (import_func T s))
    import_written h = record {
      text = (main_is_name, utf8_or s.realloc set.name_is_text);
      typed = subst (λ n. ranks Types n < length types) (let e : T + 0 ≡ T = omega arith in e) (type_added 0 (let one = ap one_if h in omega (arith, one)));
      body = tt;
    }

    lazy_written : p.lazy ≡ true → IsWritten types (new_func ranks (lazy_func T L p found))
    lazy_written h = record { text = tt; typed = type_added (lazy_position p) (let one = ap one_if h in omega (arith, one)); body = stack_can }

    growing_written : p.growing ≡ true → IsWritten types (new_func ranks (growing_func T s p found))
    growing_written h = record { text = tt; typed = type_added (growing_position p) (let one = ap one_if h in omega (arith, one)); body = growing_can }

    -- the type of the start function

    pub record IsEmptyAt (index : ℕ) : Type 0 where
      pub ty : FuncTypeValue
      pub at : slice_get types index ≡ Some ty
      pub no_params : ty.params ≡ []
      pub no_results : ty.results ≡ []

    empty_at : (n : ℕ) (o : Option FuncTypeValue) → slice_get m.types n ≡ o → option_map_or is_empty_type o false ≡ true → live (Types, n) ≡ true
        → n < T → IsEmptyAt (ranks Types n)
    empty_at n None e h l below = absurd cc
    empty_at n (Some t) e h l below =
        let both = and_parts (is_empty t.params) (is_empty t.results) h in
        record {
          ty = renumber_func_type ranks t;
          at = ap (slice_get types) (old_type s m exports live p found n below)
              ∙ get_front (types_written m live ranks) (added_types p found) (rank live Types n) (renumber_func_type ranks t)
              (slice_get-map (renumber_func_type ranks) (kept_in live Types m.types) (rank live Types n)
              ∙ ap (option_map (renumber_func_type ranks)) (rank_at (λ n. live (Types, n)) m.types n t e l));
          no_params = ap (map (renumber_val_type ranks)) (empty_is t.params both.0);
          no_results = ap (map (renumber_val_type ranks)) (empty_is t.results both.1);
        }

    empties_are : IfSome (last_of found.empties) (λ n. ((live (Types, n) && is_empty_type_at (decode m) n) ≡ true) × (n < T))
    unfolding found_in
    empties_are = last_has _ found.empties (members _ T)

    start_empty_by : p.start ≡ true → (o : Option ℕ) → last_of found.empties ≡ o
        → IfSome o (λ n. ((live (Types, n) && is_empty_type_at (decode m) n) ≡ true) × (n < T)) → IsEmptyAt (ranks Types (unwrap_or o (T + start_position p)))
    start_empty_by h (Some n) e is =
        let both = and_parts (live (Types, n)) (is_empty_type_at (decode m) n) is.0 in
        empty_at n (slice_get m.types n) refl both.1 both.0 is.1
    start_empty_by h None e is =
        let none : (p.start && is_empty found.empties) ≡ true = ap (λ (b : Bool). b && is_empty found.empties) h ∙ none_last found.empties e in
        let ks = types_written m live ranks in
        let kept = length-map (kept_in live Types m.types) (renumber_func_type ranks) ∙ kept_count (λ n. live (Types, n)) m.types in
        let index : ranks Types (T + start_position p) ≡ length ks + start_position p =
        (let at = added_type s m exports live p found (start_position p) in omega (arith, at, kept)) in
        record {
          ty = empty_type;
          at = ap (slice_get types) index ∙ (get_back ks (added_types p found) (start_position p)
              ∙ (ap (λ (b : Bool). slice_get
              (only_if p.import_realloc realloc_type ++ (only_if p.lazy empty_type ++ (only_if p.growing realloc_type ++ only_if b empty_type)))
              (start_position p)) none
              ∙ last_type p.import_realloc p.lazy p.growing));
          no_params = refl;
          no_results = refl;
        }

    start_empty : p.start ≡ true → IsEmptyAt (ranks Types (start_type T p found))
    start_empty h = start_empty_by h (last_of found.empties) refl empties_are

    start_written : p.start ≡ true → IsWritten types (new_func ranks (start_func T L p found))
    start_written h =
        let ty = start_empty h in
        record { text = tt; typed = slice_get_within types (ranks Types (start_type T p found)) ty.ty ty.at; body = stack_can }

    -- all functions

    abbrev olds_kept : List FuncCode
    olds_kept = olds s m exports live p found

    abbrev edit_of : EditedModule
    edit_of = edited s m exports live p found

    group : (P : ItemValue ℕ BodyValue → Type 0) (has : ℕ → Bool) → ((n : ℕ) (h : FuncCode) → has n ≡ true → slice_get olds_kept n ≡ Some h
        → P (new_func ranks h)) → AllByRecursion P (map (new_func ranks) (kept_items has (length olds_kept) olds_kept))
    group P has each = recursion_from_All P (map (new_func ranks) (kept_items has (length olds_kept) olds_kept))
        (All-map P (new_func ranks) (kept_items has (length olds_kept) olds_kept) (all_kept (λ h. P (new_func ranks h)) has olds_kept each (length olds_kept)))

    mapped_only : (P : ItemValue ℕ BodyValue → Type 0) (b : Bool) (x : FuncCode) → (b ≡ true → P (new_func ranks x))
        → AllByRecursion P (map (new_func ranks) (only_if b x))
    mapped_only P true x h = (h refl, tt)
    mapped_only P false x h = tt

    added : (P : ItemValue ℕ BodyValue → Type 0) → (p.lazy ≡ true → P (new_func ranks (lazy_func T L p found)))
        → (p.growing ≡ true → P (new_func ranks (growing_func T s p found))) → (p.start ≡ true → P (new_func ranks (start_func T L p found)))
        → AllByRecursion P (map (new_func ranks) edit_of.funcs)
    added P a b c =
        let xs = only_if p.lazy (lazy_func T L p found) in
        let ys = only_if p.growing (growing_func T s p found) in
        let zs = only_if p.start (start_func T L p found) in
        subst (AllByRecursion P) (sym (map-append (new_func ranks) xs (ys ++ zs) ∙ ap (λ z. map (new_func ranks) xs ++ z) (map-append (new_func ranks) ys zs)))
        (all_joined P (map (new_func ranks) xs) (map (new_func ranks) ys ++ map (new_func ranks) zs) (mapped_only P p.lazy (lazy_func T L p found) a)
        (all_joined P (map (new_func ranks) ys) (map (new_func ranks) zs) (mapped_only P p.growing (growing_func T s p found) b)
        (mapped_only P p.start (start_func T L p found) c)))

    all_written : AllByRecursion (IsWritten types) written
    all_written =
        let P = IsWritten types in
        let ones = group P (is_kept_import edit_of) (λ n h i e. old_written n h (and_parts (live (Funcs, n)) _ i).0 e) in
        let twos = mapped_only P p.import_realloc (import_func T s) import_written in
        let threes = group P (is_kept_defined edit_of) (λ n h i e. old_written n h (and_parts (live (Funcs, n)) _ i).0 e) in
        let fours = added P lazy_written growing_written start_written in
        all_joined P _ _ ones (all_joined P _ _ twos (all_joined P _ _ threes fours))

    imports_first : HasImportsFirst written
    imports_first =
        let Yes : ItemValue ℕ BodyValue → Type 0 = λ i. is_imported i ≡ true in
        let No : ItemValue ℕ BodyValue → Type 0 = λ i. is_imported i ≡ false in
        let test : (FuncCode → Bool) → Option FuncCode → Bool = λ q o. option_map_or q o false in
        let A = map (new_func ranks) (kept_imports s m exports live p found) in
        let B = map (new_func ranks) edit_of.imports in
        let C = map (new_func ranks) (kept_defined s m exports live p found) in
        let D = map (new_func ranks) edit_of.funcs in
        let ones = group Yes (is_kept_import edit_of) (λ n h i e. seen_imported (new_body ranks) h.def
        ∙ (sym (ap (test (λ (f : FuncCode). is_imported f)) e) ∙ (and_parts (live (Funcs, n)) _ i).1)) in
        let twos = mapped_only Yes p.import_realloc (import_func T s) (λ i. refl) in
        let threes = group No (is_kept_defined edit_of) (λ n h i e. seen_imported (new_body ranks) h.def
        ∙ not-true (is_imported h) (sym (ap (test (λ (f : FuncCode). is_defined f)) e) ∙ (and_parts (live (Funcs, n)) _ i).1)) in
        let fours = added No (λ i. refl) (λ i. refl) (λ i. refl) in
        subst HasImportsFirst (append_assoc A B (C ++ D)) (two_kinds (A ++ B) (C ++ D) (all_joined Yes A B ones twos) (all_joined No C D threes fours))

    pub edited_funcs_can : length types < 2 ^ 32 → AllByRecursion HasShortName written → AreFuncs types written
    edited_funcs_can bounded short = funcs_from types written bounded room all_written short imports_first

    -- the start function

    start_at : p.start ≡ true → slice_get written (ranks Funcs (L + start_position p)) ≡ Some (new_func ranks (start_func T L p found))
    start_at h =
        let A = map (new_func ranks) (kept_imports s m exports live p found) in
        let B = map (new_func ranks) edit_of.imports in
        let C = map (new_func ranks) (kept_defined s m exports live p found) in
        let D = map (new_func ranks) edit_of.funcs in
        let j = one_if p.lazy + one_if p.growing in
        let a : length A ≡ count_imports edit_of = length-map (kept_imports s m exports live p found) (new_func ranks)
        ∙ kept_count (is_kept_import edit_of) olds_kept in
        let b : length B ≡ one_if p.import_realloc = length-map edit_of.imports (new_func ranks) ∙ imports_count in
        let c : length C ≡ count_defined edit_of = length-map (kept_defined s m exports live p found) (new_func ranks)
        ∙ kept_count (is_kept_defined edit_of) olds_kept in
        let past : nat_lt (start_position p) (length edit_of.imports) ≡ false = le-ltb (start_position p) (length edit_of.imports)
        (let i = imports_count in omega (arith, i)) in
        let added_at = added_new s m exports live p found (start_position p)
        ∙ ap (λ (z : Bool). cond z (count_imports edit_of + start_position p) (count_imports edit_of + count_defined edit_of + start_position p)) past in
        let index : ranks Funcs (L + start_position p) ≡ length A + (length B + (length C + j)) = omega (arith, added_at, a, b, c) in
        ap (slice_get written) index ∙ (get_back A (B ++ (C ++ D)) (length B + (length C + j)) ∙ (get_back B (C ++ D) (length C + j) ∙ (get_back C D j
        ∙ (slice_get-map (new_func ranks) edit_of.funcs j ∙ ap (option_map (new_func ranks))
        (ap (λ (z : Bool). slice_get (only_if p.lazy (lazy_func T L p found)
        ++ (only_if p.growing (growing_func T s p found) ++ only_if z (start_func T L p found))) j) h
        ∙ last_func p.lazy p.growing (lazy_func T L p found) (growing_func T s p found) (start_func T L p found))))))

    pub edited_start : IfSome (option_map (ranks Funcs) (start_of L p)) (IsStartOf types written)
    edited_start = cond_has (λ (o : Option ℕ). IfSome (option_map (ranks Funcs) o) (IsStartOf types written)) p.start (Some (L + start_position p)) None
        (λ h. let ty = start_empty h in record {
          func = new_func ranks (start_func T L p found);
          ty = ty.ty;
          is_func = start_at h;
          is_type = ty.at;
          no_params = ty.no_params;
          no_results = ty.no_results;
        }) (λ h. tt)
