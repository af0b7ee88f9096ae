-- What the image of a trimmed adapter has is there and is code, and names what the image has alone.
use Rattle.std.proofs.Common.{◌≡◌, ◌≢◌, ℕ, zero, suc, ◌+◌, ◌-◌, ◌<◌, ◌≤◌, List, [], ◌∷◌, ◌++◌, length, map, refl, sym, ◌∙◌, ap, subst, Bool, true, false, cond, Option, Some, None, arith, ◌⊎◌, inl, inr}
use Rattle.std.specs.Prelude.{Contains, IsTrue, is_some, nat_lt, not, ◌&&◌, ◌||◌, filter}
use Rattle.std.specs.List.{AllByRecursion, list_any, range_with_len, slice_get}
use Rattle.std.specs.Option.{option_map, option_map_or}
use Rattle.std.proofs.lemmas.Bool.{false≢true, lt-ltb, ltb-false, ltb-true, and_parts}
use Rattle.std.proofs.lemmas.List.{length-append, length-map}
use Rattle.std.proofs.lemmas.List.Elements.{All-contains, All-from_recursion, All-map, All-weaker, recursion_from_All}
use Rattle.std.proofs.lemmas.Option.{slice_get-map, slice_get_within}
use Rattle.wc_read.specs.Bodies.{BodyValue, local_types}
use Rattle.wc_read.specs.BodyOperators.{body_in, init_in}
use Rattle.wc_read.specs.Exports.{ExportValue}
use Rattle.wc_read.specs.Items.{DefValue, imported, local, FuncValue, TableValue, MemoryValue}
use Rattle.wc_read.specs.Modules.{ModuleValue, IsModule, count_of}
use Rattle.wc_read.specs.Types.{FuncTypeValue}
use Rattle.wc_read.specs.declared.operators.Space.TheVariants.{Types, Funcs, Tables, Memories, Globals}
use Rattle.wc_read.proofs.OptionsLemmas.{some_same}
use Rattle.wc_read.specs.Items.{def_seen, item_seen}
use Rattle.wc_write.specs.BuiltValues.{IsWritable}
use Rattle.wc_write.proofs.WritableModuleLemmas.{spelled_writable}
use Rattle.wc_gc.specs.Causes.{DecidesLive, has_page_size_at}
use Rattle.wc_read.specs.Decoded.{DecodedModule, FuncCode, ItemIndex, decode, exported_item, is_in, size_of, is_code}
use Rattle.wc_gc.specs.Edit.{EditedModule, edit, edited_def, growing_code, is_exported_func, lazy_position, memory_of, one_if, replaced, with_call}
use Rattle.wc_read.specs.Entries.{body_refs, code_refs, def_refs, entry_at, entry_refs, func_entry, func_refs, memory_entry, no_entry, refs_in, table_entry, type_entry, val_type_refs, func_type_refs}
use Rattle.wc_gc.specs.Found.{FoundView, found_in, is_empty, is_realloc, is_realloc_at, main_module}
use Rattle.wc_gc.specs.Exports.{kept_exports}
use Rattle.wc_gc.specs.Parts.{SettingsView, adds_growing, is_any, parts_of}
use Rattle.wc_gc.specs.InRange.{is_item_in_range, is_body_in_range, is_def_in_range, is_entry_in_range}
use Rattle.wc_gc.specs.Unfolding.{IsClosed, TrimmedIsClosed, TrimmedUnfolds, has_code, edited_module}
use Rattle.wc_gc.specs.declared.parts.Parts.{Parts}
use Rattle.wc_gc.specs.declared.fault.GcFault.TheVariants.{LiveBody, ReallocMemory}
use Rattle.wc_gc.proofs.BuiltImageLemmas.{func_at, global_at}
use Rattle.wc_gc.proofs.BuiltPartLemmas.{all_at, each_weaker}
use Rattle.wc_gc.proofs.EditedFuncLemmas.{empty_is}
use Rattle.wc_gc.proofs.EditedIndexLemmas.{cond_has, edited_at, was_read}
use Rattle.wc_gc.proofs.ExportLemmas.{all_kept}
use Rattle.wc_gc.proofs.FoundLemmas.{realloc_seen}
use Rattle.wc_graph.proofs.ListLemmas.{back_at as get_back}
use Rattle.wc_gc.proofs.ImageUnfoldingLemmas.{image_unfolds}
use Rattle.wc_gc.proofs.InitRefLemmas.{global_coded, global_names_there}
use Rattle.wc_gc.proofs.InitTypeLemmas.{all-left, all-right}
use Rattle.wc_graph.proofs.ListLemmas.{get_some}
use Rattle.wc_gc.proofs.NamedThereLemmas.{There, def_there, table_names_there, type_names_there}
use Rattle.wc_gc.proofs.LiveItemLemmas.{live_named, named_kept}
use Rattle.wc_gc.proofs.LivenessLemmas.{export_there}
use Rattle.wc_gc.proofs.ReachLemmas.{there_from}
use Rattle.wc_gc.proofs.SpelledItemLemmas.{all_joined}
use Rattle.wc_gc.proofs.TrimmedTextLemmas.{live_in_range}
use Rattle.wc_graph.proofs.ListLemmas.{get_front}
use Rattle.wc_gc.proofs.ClosedAddedLemmas.{AreParts, AreThere, Has, IsClosedFunc, added_types_name_none, added_closed, found, func_has, growing_names, live_has, memory_has, parts_are, with_added}

-- what is live is there

pub live_there : (required : List (List ℕ)) (m : ModuleValue) (live : ItemIndex → Bool) → IsModule m → DecidesLive required m live → AreThere m live
live_there required m live v decides x h =
    let r = (decides x).0 h in
    let P : ItemIndex → Type 0 = λ x. IsTrue (is_in (decode m) x) in
    let roots = All-map P exported_item (kept_exports required m.exports)
    (all_kept (λ (e : ExportValue). P (exported_item e)) required m.exports
    (All-weaker (λ (e : ExportValue). e.index < count_of m e.kind) (λ (e : ExportValue). P (exported_item e)) (export_there m) m.exports v.exported)) in
    there_from (decode m) r.0 r.2 x (All-contains P (map exported_item (kept_exports required m.exports)) r.0 roots r.1) r.3

-- what is there and is kept

both_each : {A : Type 0} (P Q : A → Type 0) (xs : List A) → AllByRecursion P xs → AllByRecursion (λ x. P x → Q x) xs → AllByRecursion Q xs
both_each P Q [] a b = tt
both_each P Q (x ∷ xs) a b = (b.0 a.0, both_each P Q xs a.1 b.1)

-- a number of a range that passes a test is found

found_some : (test : ℕ → Bool) (a c n : ℕ) → a ≤ n → n < a + c → test n ≡ true → filter test (range_with_len a c) ≢ []
found_some test a zero n h k t = absurd (omega (arith, h, k))
found_some test a (suc c) n h k t = by (λ more. found_some test (a + 1) c n more (omega (arith, k)) t) (test a) refl
  where
    later : a ≤ n → (a ≡ n) ⊎ (a + 1 ≤ n)
    later h = grind arith

    by : (a + 1 ≤ n → filter test (range_with_len (a + 1) c) ≢ []) → (b : Bool) → test a ≡ b
        → cond b (a ∷ filter test (range_with_len (a + 1) c)) (filter test (range_with_len (a + 1) c)) ≢ []
    by rest true at e = absurd cc
    by rest false at e = elim (later h) [ inl same ↦ absurd (false≢true (sym at ∙ (ap test same ∙ t))) | inr more ↦ rest more e ]

any_if : {A : Type 0} (xs : List A) → xs ≢ [] → is_any xs ≡ true
any_if xs h = by (is_empty xs) refl
  where
    by : (b : Bool) → is_empty xs ≡ b → not b ≡ true
    by true e = absurd (h (empty_is xs e))
    by false e = refl

any_passes : {A : Type 0} (p : A → Bool) (xs : List A) → list_any p xs ≡ true → xs ≢ []
any_passes p [] h e = absurd (false≢true h)
any_passes p (x ∷ xs) h e = absurd cc

none_code_type : (o : Option FuncTypeValue) → IsTrue (has_code (option_map_or type_entry o no_entry))
none_code_type None = refl
none_code_type (Some t) = refl

none_code_table : (o : Option TableValue) → IsTrue (has_code (option_map_or table_entry o no_entry))
none_code_table None = refl
none_code_table (Some t) = refl

none_code_memory : (o : Option MemoryValue) → IsTrue (has_code (option_map_or memory_entry o no_entry))
none_code_memory None = refl
none_code_memory (Some t) = refl

none_named_memory : (P : ItemIndex → Type 0) (o : Option MemoryValue) → AllByRecursion P (entry_refs (option_map_or memory_entry o no_entry))
none_named_memory P None = tt
none_named_memory P (Some t) = tt

-- what holds of the live items of a module that is trimmed
pub record AreLive (m : ModuleValue) (live : ItemIndex → Bool) : Type 0 where
  pub there : AreThere m live
  pub named : (x y : ItemIndex) → IsTrue (live x) → Contains (refs_in (decode m) x) y → IsTrue (live y)
  pub in_range : (n : ℕ) → IsTrue (live (Funcs, n)) → is_item_in_range (decode m) (Funcs, n) ≡ true

-- a memory is live, where a live realloc import becomes a function that grows it
abbrev pub HasMemory : SettingsView → FoundView → Type 0
HasMemory s f = s.realloc ≡ None → is_any f.reallocs ≡ true → is_any f.memories ≡ true

module _ (s : SettingsView) (m : ModuleValue) (exports : List ExportValue) (live : ItemIndex → Bool) (p : Parts) (w : IsWritable m) (v : IsModule m)
    (k : AreLive m live)
    (a : AreParts p (found_in (decode m) live)) (memory : HasMemory s (found_in (decode m) live)) where
  abbrev found_parts : FoundView
  found_parts = found s m exports live p k.there

  abbrev edited : EditedModule
  edited = with_added s m exports live p k.there

  abbrev InImage : ItemIndex → Type 0
  InImage x = Has s m exports live p k.there x

  abbrev IsFine : FuncCode → Type 0
  IsFine f = IsClosedFunc s m exports live p k.there a f

  abbrev L : ℕ
  L = length (decode m).funcs

  -- what a live item names is in the image, where it is there
  live_names : (x : ItemIndex) → IsTrue (live x) → AllByRecursion (There (decode m)) (entry_refs (entry_at (decode m) x))
      → AllByRecursion InImage (entry_refs (entry_at (decode m) x))
  live_names x h there =
      let names = entry_refs (entry_at (decode m) x) in
      each_weaker (λ y. IsTrue (live y)) InImage names (live_has s m exports live p k.there)
      (both_each (There (decode m)) (λ y. IsTrue (live y)) names there (named_kept (decode m) live k.named x h))

  -- functions that were there

  called_names : (o : Option BodyValue) → InImage (Funcs, L + lazy_position p) → AllByRecursion InImage (body_refs o)
      → AllByRecursion InImage (body_refs (option_map (with_call (L + lazy_position p)) o))
  called_names None c h = tt
  called_names (Some b) c h =
      let types = val_type_refs (local_types b.locals) in
      all_joined InImage types ((Funcs, L + lazy_position p) ∷ code_refs b.operators) (all-left InImage types (code_refs b.operators) h)
      (c, all-right InImage types (code_refs b.operators) h)

  replaced_names : (o : Option (List ℕ)) → (o ≡ None → InImage (Memories, memory_of found_parts))
      → AllByRecursion InImage (def_refs body_refs (option_map_or (λ name. imported main_module name) o (growing_code s found_parts)))
  replaced_names None h = growing_names InImage s.page_size_log2 (memory_of found_parts) (h refl)
  replaced_names (Some name) h = tt

  edited_names : (d : DefValue (List ℕ)) → (is_realloc d ≡ true → s.realloc ≡ None → InImage (Memories, memory_of found_parts))
      → AllByRecursion InImage (def_refs body_refs (def_seen body_in d)) → (exported : Bool)
      → AllByRecursion InImage (def_refs body_refs (edited_def L s p found_parts true exported (def_seen body_in d)))
  edited_names (imported x y) r h exported =
      cond_has (λ (d : DefValue (Option BodyValue)). AllByRecursion InImage (def_refs body_refs d)) (is_realloc {C = ℕ} (imported x y))
      (replaced s found_parts) (imported x y) (λ i. replaced_names s.realloc (r i)) (λ i. tt)
  edited_names (local bytes) r h exported =
      cond_has (λ (o : Option BodyValue). AllByRecursion InImage (body_refs o)) (p.lazy && exported)
      (option_map (with_call (L + lazy_position p)) (body_in bytes)) (body_in bytes)
      (λ i. let one = ap one_if (and_parts p.lazy exported i).0 in
      called_names (body_in bytes) (func_has s m exports live p k.there (lazy_position p) (omega (arith, one))) h) (λ i. h)

  replaced_coded : (o : Option (List ℕ)) → IsTrue (is_code (option_map_or (λ name. imported main_module name) o (growing_code s found_parts)))
  replaced_coded None = refl
  replaced_coded (Some name) = refl

  body_coded : (o : Option BodyValue) → is_body_in_range (decode m) o ≡ true → (b : Bool)
      → IsTrue (is_some (cond b (option_map (with_call (L + lazy_position p)) o) o))
  body_coded None h b = absurd (false≢true h)
  body_coded (Some x) h true = refl
  body_coded (Some x) h false = refl

  edited_coded : (d : DefValue (List ℕ)) → is_def_in_range (decode m) (def_seen body_in d) ≡ true → (exported : Bool)
      → IsTrue (is_code (edited_def L s p found_parts true exported (def_seen body_in d)))
  edited_coded (imported x y) h exported =
      cond_has (λ (d : DefValue (Option BodyValue)). IsTrue (is_code d)) (is_realloc {C = ℕ} (imported x y)) (replaced s found_parts) (imported x y)
      (λ i. replaced_coded s.realloc) (λ i. refl)
  edited_coded (local bytes) h exported = body_coded (body_in bytes) h (p.lazy && exported)

  -- a live import that becomes a function that grows memory
  memory_for : (n : ℕ) (g : FuncValue) → IsTrue (live (Funcs, n)) → slice_get m.funcs n ≡ Some g → is_realloc g.def ≡ true → s.realloc ≡ None
      → InImage (Memories, memory_of found_parts)
  unfolding found_in
  memory_for n g l at r none =
      let seen : slice_get (decode m).funcs n ≡ Some (item_seen body_in g) = slice_get-map (item_seen body_in) m.funcs n
      ∙ ap (option_map (item_seen body_in)) at in
      let is : is_realloc_at (decode m) n ≡ true = ap (λ (o : Option FuncCode). option_map_or (λ (f : FuncCode). is_realloc f.def) o false) seen
      ∙ (realloc_seen body_in g.def ∙ r) in
      let both : (live (Funcs, n) && is_realloc_at (decode m) n) ≡ true = ap (λ (b : Bool). b && is_realloc_at (decode m) n) l ∙ is in
      let below = slice_get_within (decode m).funcs n (item_seen body_in g) seen in
      memory_has s m exports live p k.there
      (memory none (any_if found_parts.reallocs (found_some (λ i. live (Funcs, i) && is_realloc_at (decode m) i) 0 L n (omega arith)
      (omega (arith, below)) both)))

  old_fine : (n : ℕ) (g : FuncValue) → IsTrue (live (Funcs, n)) → slice_get m.funcs n ≡ Some g → IsFine (edited_at s m exports live p found_parts n g)
  old_fine n g l at =
      let exported = is_exported_func exports n in
      let in_range : is_def_in_range (decode m) (def_seen body_in g.def) ≡ true = sym (ap (is_entry_in_range (decode m)) (func_at m n g at)) ∙ k.in_range n l in
      let typed = all_at (λ (f : FuncValue). f.ty < length m.types) m.funcs n g
      (recursion_from_All (λ (f : FuncValue). f.ty < length m.types) m.funcs v.typed) at in
      let may = subst (λ z. AllByRecursion (λ y. IsTrue (is_in (decode m) y) → IsTrue (live y)) (entry_refs z)) (func_at m n g at)
      (named_kept (decode m) live k.named (Funcs, n) l) in
      let there : AllByRecursion (λ y. IsTrue (is_in (decode m) y)) (func_refs (item_seen body_in g)) =
      (lt-ltb g.ty (length m.types) typed, def_there (decode m) (def_seen body_in g.def) in_range) in
      let all = each_weaker (λ y. IsTrue (live y)) InImage (func_refs (item_seen body_in g)) (live_has s m exports live p k.there)
      (both_each (λ y. IsTrue (is_in (decode m) y)) (λ y. IsTrue (live y)) (func_refs (item_seen body_in g)) there may) in
      ((all.0, edited_names g.def (memory_for n g l at) all.1 exported), edited_coded g.def in_range exported)

  -- all functions

  live_if : (n : ℕ) → nat_lt n (length edited.value.funcs) ≡ true → InImage (Funcs, n) → IsTrue (live (Funcs, n))
  live_if n below h = sym (ap (λ (b : Bool). cond b (live (Funcs, n))
      (nat_lt n (length edited.value.funcs + (length edited.imports + length edited.funcs)))) below) ∙ h

  func_by : (n : ℕ) (f : FuncCode) → slice_get (edited.value.funcs ++ (edited.imports ++ edited.funcs)) n ≡ Some f → InImage (Funcs, n) → (b : Bool)
      → nat_lt n (length edited.value.funcs) ≡ b → IsFine f
  func_by n f at h true below =
      let g = get_some edited.value.funcs n (ltb-true n (length edited.value.funcs) below) in
      let same : g.0 ≡ f = some_same g.0 f (sym (get_front edited.value.funcs (edited.imports ++ edited.funcs) n g.0 g.1) ∙ at) in
      let l = live_if n below h in
      let r = was_read s m exports live p found_parts n g.0 l g.1 in
      subst IsFine (sym r.is ∙ same) (old_fine n r.func l r.at)
  func_by n f at h false below =
      let past = ltb-false n (length edited.value.funcs) below in
      let split : length edited.value.funcs + (n - length edited.value.funcs) ≡ n = omega (arith, past) in
      all_at IsFine (edited.imports ++ edited.funcs) (n - length edited.value.funcs) f (added_closed s m exports live p k.there a)
      (sym (get_back edited.value.funcs (edited.imports ++ edited.funcs) (n - length edited.value.funcs))
      ∙ (ap (slice_get (edited.value.funcs ++ (edited.imports ++ edited.funcs))) split ∙ at))

  func_fine : (n : ℕ) (f : FuncCode) → slice_get (edited.value.funcs ++ (edited.imports ++ edited.funcs)) n ≡ Some f → InImage (Funcs, n) → IsFine f
  func_fine n f at h = func_by n f at h (nat_lt n (length edited.value.funcs)) refl

  func_coded : (n : ℕ) → InImage (Funcs, n) → (o : Option FuncCode) → slice_get (edited.value.funcs ++ (edited.imports ++ edited.funcs)) n ≡ o
      → IsTrue (has_code (option_map_or func_entry o no_entry))
  func_coded n h None at = refl
  func_coded n h (Some f) at = (func_fine n f at h).1

  func_names : (n : ℕ) → InImage (Funcs, n) → (o : Option FuncCode) → slice_get (edited.value.funcs ++ (edited.imports ++ edited.funcs)) n ≡ o
      → AllByRecursion InImage (entry_refs (option_map_or func_entry o no_entry))
  func_names n h None at = tt
  func_names n h (Some f) at = (func_fine n f at h).0

  -- globals

  global_below : (n : ℕ) → InImage (Globals, n) → n < length m.globals
  global_below n h = let below = ltb-true n (length (decode m).globals) (k.there (Globals, n) h) in let l = length-map m.globals (item_seen init_in) in
      omega (arith, below, l)

  global_has_code : (n : ℕ) → InImage (Globals, n) → IsTrue (has_code (entry_at (decode m) (Globals, n)))
  global_has_code n h = let g = get_some m.globals n (global_below n h) in
      subst (λ z. IsTrue (has_code z)) (sym (global_at m n g.0 g.1)) (global_coded m w v n g.0 g.1)

  global_names : (n : ℕ) → InImage (Globals, n) → AllByRecursion InImage (entry_refs (entry_at (decode m) (Globals, n)))
  global_names n h =
      let g = get_some m.globals n (global_below n h) in
      live_names (Globals, n) h (subst (λ z. AllByRecursion (There (decode m)) (entry_refs z)) (sym (global_at m n g.0 g.1))
      (global_names_there m w v n g.0 g.1))

  -- types, tables

  type_names_by : (n : ℕ) (b : Bool) → nat_lt n (length m.types) ≡ b → cond b (live (Types, n)) (nat_lt n (length m.types + length edited.types)) ≡ true
      → AllByRecursion InImage (entry_refs (option_map_or type_entry (slice_get (m.types ++ edited.types) n) no_entry))
  type_names_by n true below h =
      let t = get_some m.types n (ltb-true n (length m.types) below) in
      subst (λ o. AllByRecursion InImage (entry_refs (option_map_or type_entry o no_entry))) (t.1 ∙ sym (get_front m.types edited.types n t.0 t.1))
      (live_names (Types, n) h (type_names_there m v n (slice_get m.types n) refl))
  type_names_by n false past h =
      let over = ltb-false n (length m.types) past in
      let split : length m.types + (n - length m.types) ≡ n = omega (arith, over) in
      let back : slice_get (m.types ++ edited.types) n ≡ slice_get edited.types (n - length m.types) =
      sym (ap (slice_get (m.types ++ edited.types)) split) ∙ get_back m.types edited.types (n - length m.types) in
      subst (λ o. AllByRecursion InImage (entry_refs (option_map_or type_entry o no_entry))) (sym back)
      (added_at (n - length m.types) (slice_get edited.types (n - length m.types)) refl)
    where
      added_at : (k : ℕ) (o : Option FuncTypeValue) → slice_get edited.types k ≡ o → AllByRecursion InImage (entry_refs (option_map_or type_entry o no_entry))
      added_at k None e = tt
      added_at k (Some t) e = all_at (λ t. AllByRecursion InImage (func_type_refs t)) edited.types k t
          (added_types_name_none InImage p (is_empty found_parts.empties)) e

  type_names : (n : ℕ) → InImage (Types, n) → AllByRecursion InImage (entry_refs (option_map_or type_entry (slice_get (m.types ++ edited.types) n) no_entry))
  type_names n h = type_names_by n (nat_lt n (length m.types)) refl h

  table_names : (n : ℕ) → InImage (Tables, n) → AllByRecursion InImage (entry_refs (option_map_or table_entry (slice_get m.tables n) no_entry))
  table_names n h = live_names (Tables, n) h (table_names_there m v n (slice_get m.tables n) refl)

  -- all items

  type_below : (n : ℕ) (b : Bool) → nat_lt n (length m.types) ≡ b → cond b (live (Types, n)) (nat_lt n (length m.types + length edited.types)) ≡ true
      → n < length (m.types ++ edited.types)
  type_below n true below h = let l = ltb-true n (length m.types) below in let c = length-append m.types edited.types in omega (arith, l, c)
  type_below n false past h = let l = ltb-true n (length m.types + length edited.types) h in let c = length-append m.types edited.types in omega (arith, l, c)

  func_below : (n : ℕ) (b : Bool) → nat_lt n (length edited.value.funcs) ≡ b
      → cond b (live (Funcs, n)) (nat_lt n (length edited.value.funcs + (length edited.imports + length edited.funcs))) ≡ true
      → n < length (edited.value.funcs ++ (edited.imports ++ edited.funcs))
  func_below n true below h = let l = ltb-true n (length edited.value.funcs) below in
      let c = length-append edited.value.funcs (edited.imports ++ edited.funcs) in omega (arith, l, c)
  func_below n false past h =
      let l = ltb-true n (length edited.value.funcs + (length edited.imports + length edited.funcs)) h in
      let c = length-append edited.value.funcs (edited.imports ++ edited.funcs) in
      let d = length-append edited.imports edited.funcs in
      omega (arith, l, c, d)

  all_there : (x : ItemIndex) → InImage x → x.1 < size_of (edited_module edited) x.0
  all_there (Types, n) h = type_below n (nat_lt n (length m.types)) refl h
  all_there (Funcs, n) h = func_below n (nat_lt n (length edited.value.funcs)) refl h
  all_there (Tables, n) h = ltb-true n (length m.tables) (k.there (Tables, n) h)
  all_there (Memories, n) h = ltb-true n (length m.memories) (k.there (Memories, n) h)
  all_there (Globals, n) h = ltb-true n (length (decode m).globals) (k.there (Globals, n) h)

  all_coded : (x : ItemIndex) → InImage x → IsTrue (has_code (entry_at (edited_module edited) x))
  all_coded (Types, n) h = none_code_type (slice_get (m.types ++ edited.types) n)
  all_coded (Funcs, n) h = func_coded n h (slice_get (edited.value.funcs ++ (edited.imports ++ edited.funcs)) n) refl
  all_coded (Tables, n) h = none_code_table (slice_get m.tables n)
  all_coded (Memories, n) h = none_code_memory (slice_get m.memories n)
  all_coded (Globals, n) h = global_has_code n h

  all_names : (x : ItemIndex) → InImage x → AllByRecursion InImage (entry_refs (entry_at (edited_module edited) x))
  all_names (Types, n) h = type_names n h
  all_names (Funcs, n) h = func_names n h (slice_get (edited.value.funcs ++ (edited.imports ++ edited.funcs)) n) refl
  all_names (Tables, n) h = table_names n h
  all_names (Memories, n) h = none_named_memory InImage (slice_get m.memories n)
  all_names (Globals, n) h = global_names n h

  pub is_closed : IsClosed edited
  is_closed = record {
    there = all_there;
    code = all_coded;
    closed = λ x y h c. All-contains InImage (entry_refs (entry_at (edited_module edited) x)) y
        (All-from_recursion InImage (entry_refs (entry_at (edited_module edited) x)) (all_names x h)) c;
  }

-- a memory that a realloc import grows, where nothing says that there is none

grows_if : (a r k : Bool) → r ≡ false → k ≡ true → (a || (not r && k)) ≡ true
grows_if true r k e h = refl
grows_if false true k e h = absurd (false≢true (sym e))
grows_if false false k e h = h

either_one : (a b : Bool) → a ≡ true → ¬ (IsTrue (a && not b)) → b ≡ true
either_one a true e h = refl
either_one true false e h = absurd (h refl)
either_one false false e h = absurd (false≢true e)

has_memory : (s : SettingsView) (d : DecodedModule) (f : FoundView)
    → ¬ (IsTrue ((adds_growing s f || (not (is_some s.realloc) && is_any f.reallocs)) && not (list_any (has_page_size_at d s.page_size_log2) f.memories)))
    → HasMemory s f
has_memory s d f h none some =
    any_if f.memories (any_passes (has_page_size_at d s.page_size_log2) f.memories
    (either_one (adds_growing s f || (not (is_some s.realloc) && is_any f.reallocs)) (list_any (has_page_size_at d s.page_size_log2) f.memories)
    (grows_if (adds_growing s f) (is_some s.realloc) (is_any f.reallocs) (ap (λ (o : Option (List ℕ)). is_some o) none) some) h))

pub trimmed_is_closed : TrimmedIsClosed
unfolding edit
trimmed_is_closed s w text are all t none =
    let m = t.value in
    let d = decode m in
    let exports = kept_exports w.required m.exports in
    let f = found_in d t.live in
    let v = t.spelled.has_sections.valid in
    is_closed s m exports t.live (parts_of s f) (spelled_writable w.bytes m all t.spelled) v (record {
      there = live_there w.required m t.live v t.decides;
      named = live_named w.required m t.live t.decides;
      in_range = live_in_range w.bytes w.required m t.live all t.spelled t.decides (λ h. none LiveBody (inl (m, t.spelled, h)));
    }) (parts_are s f) (has_memory s d f (λ h. none ReallocMemory (inr (m, t.live, t.spelled, t.decides, h))))

pub trimmed_unfolds : TrimmedUnfolds
trimmed_unfolds s w text are all t none = image_unfolds (edit s (decode t.value) (kept_exports w.required t.value.exports) t.live)
    (trimmed_is_closed s w text are all t none)
