-- What live items of an adapter name is there, so one from which no live items lead to an edited one unfolds as it did.
use Rattle.std.proofs.Common.{◌≡◌, ℕ, ◌<◌, List, [], ◌∷◌, length, map, refl, sym, ◌∙◌, ap, subst, Bool, true, false, Option, Some, None}
use Rattle.std.specs.Prelude.{IsTrue, Contains}
use Rattle.std.specs.List.{All, AllByRecursion, slice_get}
use Rattle.std.specs.Option.{option_map, option_map_or}
use Rattle.std.proofs.lemmas.List.Elements.{All-contains, All-from_recursion, All-map, All-weaker, recursion_from_All}
use Rattle.std.proofs.lemmas.Option.{slice_get-map}
use Rattle.wc_read.specs.BodyOperators.{body_in, init_in}
use Rattle.wc_read.specs.Exports.{ExportValue}
use Rattle.wc_read.specs.Items.{FuncValue, GlobalValue, MemoryValue}
use Rattle.wc_read.specs.Modules.{IsModule, ModuleValue, count_of}
use Rattle.wc_read.specs.declared.operators.Space.TheVariants.{Types, Funcs, Tables, Memories, Globals}
use Rattle.wc_write.specs.BuiltValues.{IsWritable}
use Rattle.wc_read.specs.Items.{item_seen}
use Rattle.wc_write.proofs.WritableModuleLemmas.{spelled_writable}
use Rattle.wc_read.specs.Decoded.{DecodedModule, ItemIndex, decode, exported_item, is_in}
use Rattle.wc_read.specs.Entries.{entry_at, entry_refs, func_entry, global_entry, memory_entry, no_entry, refs_in}
use Rattle.wc_gc.specs.Exports.{kept_exports}
use Rattle.wc_gc.specs.LiveItems.{HasLiveBody, IsLive}
use Rattle.wc_graph.specs.Reached.{IsPath}
use Rattle.wc_gc.specs.InRange.{is_item_in_range, is_entry_in_range}
use Rattle.wc_gc.specs.UntouchedLaws.{IsUnedited, LiveUnfold, is_edited, original_of}
use Rattle.wc_gc.proofs.BuiltPartLemmas.{all_at}
use Rattle.wc_gc.proofs.ExportLemmas.{all_kept}
use Rattle.wc_gc.proofs.InitRefLemmas.{global_names_there}
use Rattle.wc_graph.proofs.ListLemmas.{each_named}
use Rattle.wc_gc.proofs.LiveItemLemmas.{reached_more}
use Rattle.wc_gc.proofs.LivenessLemmas.{export_there}
use Rattle.wc_gc.proofs.NamedThereLemmas.{There, func_there, table_names_there, type_names_there}
use Rattle.wc_gc.proofs.ReachLemmas.{there_from}
use Rattle.wc_gc.proofs.UntouchedLemmas.{trees_same}

memory_names : (d : DecodedModule) (o : Option MemoryValue) → AllByRecursion (There d) (entry_refs (option_map_or memory_entry o no_entry))
memory_names d None = tt
memory_names d (Some t) = tt

module _ (required : List (List ℕ)) (m : ModuleValue) (w : IsWritable m) (v : IsModule m) (in_range : ¬ (HasLiveBody required m)) where
  abbrev read : DecodedModule
  read = decode m

  is_live_in_range : (x : ItemIndex) → IsLive required m x → is_item_in_range read x ≡ true
  is_live_in_range x l = by (is_item_in_range read x) refl
    where
      by : (b : Bool) → is_item_in_range read x ≡ b → b ≡ true
      by true e = refl
      by false e = absurd (in_range (x, l, e))

  func_names : (n : ℕ) → is_item_in_range read (Funcs, n) ≡ true → (o : Option FuncValue) → slice_get m.funcs n ≡ o
      → AllByRecursion (There read) (entry_refs (option_map_or func_entry (option_map (item_seen body_in) o) no_entry))
  func_names n s None e = tt
  func_names n s (Some f) e =
      func_there read (item_seen body_in f)
      (all_at (λ (f : FuncValue). f.ty < length m.types) m.funcs n f (recursion_from_All (λ (f : FuncValue). f.ty < length m.types) m.funcs v.typed) e)
      (sym (ap (λ o. is_entry_in_range read (option_map_or func_entry o no_entry)) (slice_get-map (item_seen body_in) m.funcs n
      ∙ ap (option_map (item_seen body_in)) e)) ∙ s)

  global_names : (n : ℕ) (o : Option GlobalValue) → slice_get m.globals n ≡ o
      → AllByRecursion (There read) (entry_refs (option_map_or global_entry (option_map (item_seen init_in) o) no_entry))
  global_names n None e = tt
  global_names n (Some g) e = global_names_there m w v n g e

  -- each item that a live one names
  each_there : (x : ItemIndex) → IsLive required m x → AllByRecursion (There read) (entry_refs (entry_at read x))
  each_there (Types, n) l = type_names_there m v n (slice_get m.types n) refl
  each_there (Funcs, n) l =
      subst (λ o. AllByRecursion (There read) (entry_refs (option_map_or func_entry o no_entry))) (sym (slice_get-map (item_seen body_in) m.funcs n))
      (func_names n (is_live_in_range (Funcs, n) l) (slice_get m.funcs n) refl)
  each_there (Tables, n) l = table_names_there m v n (slice_get m.tables n) refl
  each_there (Memories, n) l = memory_names read (slice_get m.memories n)
  each_there (Globals, n) l =
      subst (λ o. AllByRecursion (There read) (entry_refs (option_map_or global_entry o no_entry))) (sym (slice_get-map (item_seen init_in) m.globals n))
      (global_names n (slice_get m.globals n) refl)

  pub named_present : (x y : ItemIndex) → IsLive required m x → Contains (entry_refs (entry_at read x)) y → Contains (refs_in read x) y
  named_present x y l c =
      let names = entry_refs (entry_at read x) in
      let kept : AllByRecursion (λ z. There read z → Contains (refs_in read x) z) names = each_named (is_in read) (Contains (refs_in read x)) names
      (λ z k. k) in
      All-contains (λ (z : ItemIndex). There read z → Contains (refs_in read x) z) names y
      (All-from_recursion (λ (z : ItemIndex). There read z → Contains (refs_in read x) z) names kept) c
      (All-contains (There read) names y (All-from_recursion (There read) names (each_there x l)) c)

-- live items are there

module _ (required : List (List ℕ)) (m : ModuleValue) (v : IsModule m) where
  roots_in : All (λ (x : ItemIndex). IsTrue (is_in (decode m) x)) (map exported_item (kept_exports required m.exports))
  roots_in =
      All-map (λ (x : ItemIndex). IsTrue (is_in (decode m) x)) exported_item (kept_exports required m.exports)
      (all_kept (λ (e : ExportValue). IsTrue (is_in (decode m) (exported_item e))) required m.exports
      (All-weaker (λ (e : ExportValue). e.index < count_of m e.kind) (λ (e : ExportValue). IsTrue (is_in (decode m) (exported_item e)))
      (export_there m) m.exports v.exported))

  pub live_there : (x : ItemIndex) → IsLive required m x → IsTrue (is_in (decode m) x)
  live_there x l =
      there_from (decode m) l.0 l.2 x
      (All-contains (λ (x : ItemIndex). IsTrue (is_in (decode m) x)) (map exported_item (kept_exports required m.exports)) l.0 roots_in l.1) l.3

pub live_unfold : LiveUnfold
live_unfold s w m live x u =
    let a = original_of s w m live in
    let writable = spelled_writable w.bytes m u.bytes u.spelled in
    let valid = u.spelled.has_sections.valid in
    let P : ItemIndex → Type 0 = λ y. IsLive w.required m y × ((path : List ItemIndex) (z : ItemIndex) → IsPath (refs_in (decode m)) y path z
    → is_edited a z ≡ false) in
    let unedited : (y : ItemIndex) → P y → IsUnedited a y = λ y k. record { there = live_there w.required m valid y k.0; same = k.1 [] y refl } in
    let closed : (y z : ItemIndex) → P y → Contains (entry_refs (entry_at (decode m) y)) z → P z =
    λ y z k c.
    let next = named_present w.required m writable valid u.in_range y z k.0 c in
    (reached_more (refs_in (decode m)) (map exported_item (kept_exports w.required m.exports)) y z k.0 next, λ path t p. k.1 (z ∷ path) t (next, p)) in
    λ n. trees_same a P unedited closed n x (u.is_live, u.leads)
