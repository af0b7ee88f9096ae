-- What modules import, as it is noted.
use Rattle.std.proofs.Common.{◌≡◌, ℕ, not, zero, suc, ◌+◌, ◌<◌, Bool, true, false, cond, ◌||◌, List, [], ◌∷◌, ◌++◌, length, map, take, get_or, is_some, Contains, option_map, Option, Some, None, String, string_bytes, refl, sym, ◌∙◌, ap, append_assoc, subst, inl, inr, arith}
use Rattle.std.proofs.Math.Bool.{or-false}
use Rattle.std.proofs.lemmas.Bool.{cases_Bool, or_left}
use Rattle.std.proofs.lemmas.List.{map-append, take_more}
use Rattle.std.proofs.lemmas.List.Folds.{list_any-append}
use Rattle.std.proofs.lemmas.Option.{get_or_from_slice_get, same_Some, slice_get-get_or, slice_get-map, slice_get_within}
use Rattle.std.proofs.lemmas.Slice.Eq.{bytes_eq-Decides}
use Rattle.std.specs.Borrow.{Bor}
use Rattle.std.specs.List.{list_any, slice_get}
use Rattle.std.specs.Map.{lookup}
use Rattle.std.specs.Prelude.{◌&&◌, AllPairs, MatchOption, ◌↔◌, ◌⊎◌, codes}
use Rattle.std.specs.Str.{bytes_eq}
use Rattle.std.specs.declared.alloc.Global.{Global}
use Rattle.json.specs.Lex.{tokens}
use Rattle.json.specs.Print.{print}
use Rattle.json.specs.Tree.{json_tokens}
use Rattle.indexmap.specs.IndexMap.{IndexMap, insert_entry}
use Rattle.indexmap.proofs.CallerLemmas.{insert_entry-new}
use Rattle.wc_maps.specs.Texts.{HasTexts, is_in}
use Rattle.wc_texts.specs.Names.{first_occurrences, named_view}
use Rattle.wc_read.specs.Imports.{ImportValue, import_value, import_values}
use Rattle.wc_read.specs.Modules.{ModuleValue}
use Rattle.wc_read.specs.Names.{GlobalNameValue}
use Rattle.wc_read.specs.declared.types.Import.{Import}
use Rattle.wc_read.specs.Decoded.{ItemIndex}
use Rattle.wc_gc.specs.LiveChains.{AreImportChains}
use Rattle.wc_gc.specs.LiveItems.{IsLive}
use Rattle.wc_gc.specs.declared.import_chains.ImportChains.{ImportChains}
use Rattle.wc_gc.proofs.NameSetLemmas.{same_text}
use Rattle.wc_segments.specs.Segments.{SegmentsValue}
use Rattle.wc_graph.proofs.ChainTreeLemmas.{none_of}
use Rattle.wc_import_paths.specs.Joined.{AreJoined}
use Rattle.wc_why.specs.Texts.{text_of}
use Rattle.wc_import_paths.proofs.JoinedLemmas.{none_joined, one_joined}
use Rattle.wc_summary.specs.Entries.{EntriesView, IsSorted, interfaces_of, no_parts, parts_of, with_adapters, with_main}
use Rattle.wc_summary.specs.Leads.{Tags, named_in, tag_view, tags_view}
use Rattle.wc_summary.specs.Notes.{NotesAdapterModule, NotesParts}
use Rattle.wc_summary.specs.Parts.{ArePartsOf, IsAdapterPartOf, IsMainPartOf}
use Rattle.wc_summary.specs.Summary.{EntryView, IsListedBefore, PartsView}
use Rattle.wc_summary.specs.SummaryJson.{entries_json}
use Rattle.wc_summary.specs.SummaryLines.{entry_lines}
use Rattle.wc_summary.proofs.AdapterPartLemmas.{no_more}
use Rattle.wc_summary.proofs.ListedLemmas.{sorted_names, sorted_part}
use Rattle.wc_summary.proofs.NotedLemmas.{adapter_by as by_test, wanted_as, with_both}
use Rattle.wc_summary.proofs.TagLemmas.{lists_more, lists_none}
use Rattle.wc_summary.proofs.UseLemmas.{same_there}
use Rattle.wc_module_ways.specs.Adapters.{AdapterView, adapter_view}
use Rattle.wc_module_ways.specs.Imports.{AreAdapterTags, AreEntries, AreFound, AreMainNames, AreFoundAt, AreParts, ArePartsAt, IsAdapterTag, IsEntry, IsImportsJsonIn, IsImportsTextIn, adapter_by, is_wanted, main_tags}
use Rattle.wc_import_paths.specs.MainModules.{bytes_in, code_of, main_view, segments_of}
use Rattle.wc_module_ways.specs.Modules.{AreView, ModulesView}
use Rattle.wc_module_ways.specs.CoreImports.{AreCoreFound, AreCoreUses}
use Rattle.wc_module_ways.specs.CoreModules.{CoreView, core_view}
use Rattle.wc_module_ways.specs.Private.CoreImports.{NotesCores}
use Rattle.wc_module_ways.specs.Private.Imports.{AreWanted, NotesAdaptersOf, NotesMainOf, NotesThis, NotesWanted, has_key, tag_at, tags_at}
use Rattle.wc_module_ways.specs.declared.adapter.AdapterModule.{AdapterModule}
use Rattle.wc_module_ways.specs.declared.modules.Modules.{Modules}

-- ---- the interfaces of imports, one after another

pub tags_next : (f : ImportValue → Option (List ℕ)) (imports : List Import) (i : ℕ) (d : Import) (old new : List (Option (String Global))) (t : Option (String Global))
    → i < length imports → tag_view t ≡ f (import_value (get_or imports i d)) → new ≡ old ++ t ∷ [] → tags_view old ≡ map f (import_values (take i imports))
    → tags_view new ≡ map f (import_values (take (i + 1) imports))
tags_next f imports i d old new t lt is put h =
    ap tags_view put ∙ (map-append tag_view old (t ∷ [])
    ∙ (ap (λ (z : List (Option (List ℕ))). z ++ tag_view t ∷ []) h
    ∙ (ap (λ (z : Option (List ℕ)). map f (import_values (take i imports)) ++ z ∷ []) is
    ∙ sym (ap (λ (z : List Import). map f (import_values z)) (take_more imports i d lt)
    ∙ (ap (map f) (map-append import_value (take i imports) (get_or imports i d ∷ [])) ∙ map-append f (import_values (take i imports)) (import_value (get_or imports i d) ∷ []))))))

-- ---- names that are the keys of a map

one_key : (b : Bool) (v : Unit {0}) → is_some (cond b (Some v) None) ≡ b
one_key true v = refl
one_key false v = refl

more_keys : (b : Bool) (v : Unit {0}) (o p : Option (Unit {0})) (c : Bool) → is_some o ≡ (is_some p || c)
    → is_some (cond b (Some v) o) ≡ (is_some (cond b (Some v) p) || c)
more_keys true v o p c h = refl
more_keys false v o p c h = h

key_last : (es : List (String Global × Unit {0})) (name : String Global) (v : Unit {0}) (e : List ℕ)
    → has_key (es ++ (name, v) ∷ []) e ≡ (has_key es e || bytes_eq e (string_bytes name))
key_last [] name v e = one_key (bytes_eq e (string_bytes name)) v
key_last (x ∷ es) name v e =
    more_keys (bytes_eq e (string_bytes x.0)) x.1 (lookup (bytes_eq e) (map named_view (es ++ (name, v) ∷ []))) (lookup (bytes_eq e) (map named_view es))
    (bytes_eq e (string_bytes name)) (key_last es name v e)

-- a name that was none of them comes last
pub noted_last : {S : Type 0} (m : IndexMap (String Global) (Unit {0}) S) (name : String Global) (v : Unit {0}) (text : List ℕ) (new : List (String Global × Unit {0}))
    → is_some (lookup (λ (k : String Global). bytes_eq text (string_bytes k)) m.entries) ≡ false → string_bytes name ≡ text
    → new ≡ insert_entry same_text m.entries name v → NotesWanted text m.entries new
noted_last m name v text new absent is inserted e =
    let none : lookup (same_text name) m.entries ≡ None =
    ap (λ (x : List ℕ). lookup (λ (k : String Global). bytes_eq x (string_bytes k)) m.entries) is
    ∙ none_of (lookup (λ (k : String Global). bytes_eq text (string_bytes k)) m.entries) true absent refl in
    ap (λ (z : List (String Global × Unit {0})). has_key z e) (inserted ∙ insert_entry-new same_text m name v none)
    ∙ (key_last m.entries name v e ∙ ap (λ (x : List ℕ). has_key m.entries e || bytes_eq e x) is)

noted_or : (es : List (String Global × Unit {0})) (text e : List ℕ) → has_key es text ≡ true → (bytes_eq e text ≡ true) ⊎ (bytes_eq e text ≡ false)
    → has_key es e ≡ (has_key es e || bytes_eq e text)
noted_or es text e there (inl same) =
    let held = ap (has_key es) ((bytes_eq-Decides e text).0 same) ∙ there in
    held ∙ sym (or_left (has_key es e) (bytes_eq e text) held)
noted_or es text e there (inr other) = sym (ap (λ (b : Bool). has_key es e || b) other ∙ or-false (has_key es e))

pub noted_already : (es : List (String Global × Unit {0})) (text : List ℕ) → is_some (lookup (λ (k : String Global). bytes_eq text (string_bytes k)) es) ≡ true
    → NotesWanted text es es
noted_already es text there e = noted_or es text e (sym (same_there es text) ∙ there) (cases_Bool (bytes_eq e text))

more_wanted : (a k e : Bool) → ((not a && k) || (not a && e)) ≡ (not a && (k || e))
more_wanted true k e = refl
more_wanted false k e = refl

all_names : (names : List (Bor (List ℕ))) (i : ℕ) (d : Bor (List ℕ)) (e : List ℕ) → i < length names
    → list_any (bytes_eq e) (map text_of (take (i + 1) names)) ≡ (list_any (bytes_eq e) (map text_of (take i names)) || bytes_eq e (get_or names i d).now)
all_names names i d e lt =
    ap (λ (z : List (Bor (List ℕ))). list_any (bytes_eq e) (map text_of z)) (take_more names i d lt)
    ∙ (ap (list_any (bytes_eq e)) (map-append text_of (take i names) (get_or names i d ∷ []))
    ∙ (list_any-append (bytes_eq e) (map text_of (take i names)) ((get_or names i d).now ∷ [])
    ∙ ap (λ (b : Bool). list_any (bytes_eq e) (map text_of (take i names)) || b) (or-false (bytes_eq e (get_or names i d).now))))

-- one name more, which is none of those that are always needed; and one that is

pub wanted_next : (always : List (List ℕ)) (names : List (Bor (List ℕ))) (i : ℕ) (d : Bor (List ℕ)) (old new : List (String Global × Unit {0})) → i < length names
    → is_in always (get_or names i d).now ≡ false → AreWanted always (map text_of (take i names)) old → NotesWanted (get_or names i d).now old new
    → AreWanted always (map text_of (take (i + 1) names)) new
wanted_next always names i d old new lt other h n e =
    let a = is_in always e in
    n e
    ∙ (ap (λ (b : Bool). b || bytes_eq e (get_or names i d).now) (h e)
    ∙ (named_other always (get_or names i d).now e other (list_any (bytes_eq e) (map text_of (take i names)))
    ∙ (more_wanted a (list_any (bytes_eq e) (map text_of (take i names))) (bytes_eq e (get_or names i d).now)
    ∙ ap (λ (b : Bool). not a && b) (sym (all_names names i d e lt)))))
  where
    pick : (always : List (List ℕ)) (name e : List ℕ) → is_in always name ≡ false → (b : Bool) → bytes_eq e name ≡ b
        → b ≡ (not (is_in always e) && b)
    pick always name e other true is =
        let same : is_in always e ≡ false = ap (λ z. is_in always z) ((bytes_eq-Decides e name).0 is) ∙ other in
        sym (ap (λ b. not b && true) same)
    pick always name e other false is = none (is_in always e)
      where
        none : (a : Bool) → false ≡ (not a && false)
        none true = refl
        none false = refl

    named_other : (always : List (List ℕ)) (name e : List ℕ) → is_in always name ≡ false → (k : Bool)
        → ((not (is_in always e) && k) || bytes_eq e name)
        ≡ ((not (is_in always e) && k) || (not (is_in always e) && bytes_eq e name))
    named_other always name e other k =
        ap (λ b. (not (is_in always e) && k) || b) (pick always name e other (bytes_eq e name) refl)

pub wanted_past : (always : List (List ℕ)) (names : List (Bor (List ℕ))) (i : ℕ) (d : Bor (List ℕ)) (old : List (String Global × Unit {0})) → i < length names
    → is_in always (get_or names i d).now ≡ true → AreWanted always (map text_of (take i names)) old
    → AreWanted always (map text_of (take (i + 1) names)) old
wanted_past always names i d old lt one h e =
    h e
    ∙ (past (list_any (bytes_eq e) (map text_of (take i names))) (bytes_eq e (get_or names i d).now) refl
    ∙ ap (λ (b : Bool). not (is_in always e) && b) (sym (all_names names i d e lt)))
  where
    or_false : (k : Bool) → k ≡ (k || false)
    or_false true = refl
    or_false false = refl

    past : (k b : Bool) → bytes_eq e (get_or names i d).now ≡ b
        → (not (is_in always e) && k) ≡ (not (is_in always e) && (k || b))
    past k true is =
        let same : is_in always e ≡ true = ap (λ z. is_in always z) ((bytes_eq-Decides e (get_or names i d).now).0 is) ∙ one in
        ap (λ a. not a && k) same ∙ sym (ap (λ a. not a && (k || true)) same)
    past k false is = ap (λ b. not (is_in always e) && b) (or_false k)

-- one name more, by whether it is in a set that has these texts

pub outside_next : (keys always : List (List ℕ)) (same : HasTexts always keys) (names : List (Bor (List ℕ))) (i : ℕ) (d : Bor (List ℕ))
    (old new : List (String Global × Unit {0})) → i < length names → (is_in keys (get_or names i d).now ≡ true → new ≡ old)
    → (is_in keys (get_or names i d).now ≡ false → NotesWanted (get_or names i d).now old new) → AreWanted always (map text_of (take i names)) old
    → AreWanted always (map text_of (take (i + 1) names)) new
outside_next keys always same names i d old new lt kept noted h = elim (cases_Bool (is_in keys (get_or names i d).now)) [
  | inl one ↦
      subst (AreWanted always (map text_of (take (i + 1) names))) (sym (kept one))
      (wanted_past always names i d old lt (sym (same (get_or names i d).now) ∙ one) h)
  | inr other ↦ wanted_next always names i d old new lt (sym (same (get_or names i d).now) ∙ other) h (noted other)
]

-- ---- an adapter, by the names that the main module imports from it

pub adapter_noted : (imports : List ImportValue) (a : AdapterView) (tags : Tags) (is : List ℕ → Bool) (old new : EntriesView) → AreAdapterTags a tags
    → ((e : List ℕ) → is e ≡ is_wanted imports a e) → NotesAdapterModule (by_test a.name a.code tags a.required is) old new → NotesThis imports a old new
adapter_noted imports a tags is old new t same h =
    (tags, t, wanted_as a.name a.code tags a.required is (is_wanted imports a) same old new h)

-- whether an import of an adapter stays, and the interface to which it belongs
stays_by : (a : AdapterView) (i : ImportValue) (x : ItemIndex) (order : List ItemIndex) (position : Option ℕ)
    → MatchOption position (¬ (IsLive a.required a.code x)) (λ p. slice_get order p ≡ Some x) → ((y : ItemIndex) → Contains order y ↔ IsLive a.required a.code y)
    → IsAdapterTag a i x (tag_at position i)
stays_by a i x order None dead live = inr (dead, refl)
stays_by a i x order (Some p) at live = inl ((live x).0 (p, slice_get_within order p x at, get_or_from_slice_get order p x x at), refl)

tags_many : (is : List ImportValue) (ps : List (Option ℕ)) → length ps ≡ length is → length (tags_at is ps) ≡ length is
tags_many [] ps e = refl
tags_many (i ∷ is) [] e = absurd (omega (arith, e))
tags_many (i ∷ is) (p ∷ ps) e = let n = tags_many is ps (omega (arith, e)) in omega (arith, n)

tag_there : (is : List ImportValue) (ps : List (Option ℕ)) (k : ℕ) (i : ImportValue) (tag : Option (List ℕ)) → length ps ≡ length is → slice_get is k ≡ Some i
    → slice_get (tags_at is ps) k ≡ Some tag → (p : Option ℕ) × (slice_get ps k ≡ Some p) × (tag ≡ tag_at p i)
tag_there [] ps k i tag e at found = absurd (let w = slice_get_within [] k i at in omega (arith, w))
tag_there (j ∷ is) [] k i tag e at found = absurd (omega (arith, e))
tag_there (j ∷ is) (p ∷ ps) zero i tag e at found =
    let same : j ≡ i = same_Some j i at in
    (p, refl, sym (same_Some (tag_at p j) tag found) ∙ ap (tag_at p) same)
tag_there (j ∷ is) (p ∷ ps) (suc k) i tag e at found = tag_there is ps k i tag (omega (arith, e)) at found

pub tags_are : (a : AdapterView) (chains : ImportChains) (tags : Tags) → AreImportChains a.required a.code chains → tags ≡ tags_at a.code.imports chains.imports.items
    → AreAdapterTags a tags
tags_are a chains tags are is = record {
  sized = ap length is ∙ tags_many a.code.imports chains.imports.items are.imports.each;
  at = λ k i x tag at item found.
      let r = tag_there a.code.imports chains.imports.items k i tag are.imports.each at (sym (ap (λ (z : Tags). slice_get z k) is) ∙ found) in
      subst (IsAdapterTag a i x) (sym r.2) (stays_by a i x chains.order.items r.0 (are.imports.at k x r.0 item r.1) are.live);
}

pub tags_more : (is : List ImportValue) (ps : List (Option ℕ)) (k : ℕ) (i : ImportValue) (p : Option ℕ) → slice_get is k ≡ Some i → slice_get ps k ≡ Some p
    → tags_at (take (k + 1) is) (take (k + 1) ps) ≡ tags_at (take k is) (take k ps) ++ tag_at p i ∷ []
tags_more [] ps k i p at also = absurd (let w = slice_get_within [] k i at in omega (arith, w))
tags_more (j ∷ is) [] k i p at also = absurd (let w = slice_get_within [] k p also in omega (arith, w))
tags_more (j ∷ is) (q ∷ ps) zero i p at also =
    ap (λ (z : Option (List ℕ)). z ∷ []) (ap (λ (y : ImportValue). tag_at q y) (same_Some j i at) ∙ ap (λ (r : Option ℕ). tag_at r i) (same_Some q p also))
tags_more (j ∷ is) (q ∷ ps) (suc k) i p at also =
    let e : suc k + 1 ≡ suc (k + 1) = omega arith in rw e (ap (λ (z : Tags). tag_at q j ∷ z) (tags_more is ps k i p at also))

pub tags_pushed : (imports : List Import) (positions : List (Option ℕ)) (k : ℕ) (d : Import) (e : Option ℕ) (old new : List (Option (String Global))) (t : Option (String Global))
    → k < length imports → k < length positions → tag_view t ≡ tag_at (get_or positions k e) (import_value (get_or imports k d)) → new ≡ old ++ t ∷ []
    → tags_view old ≡ tags_at (take k (import_values imports)) (take k positions) → tags_view new ≡ tags_at (take (k + 1) (import_values imports)) (take (k + 1) positions)
tags_pushed imports positions k d e old new t lt also is put h =
    let i = import_value (get_or imports k d) in
    let p = get_or positions k e in
    ap tags_view put ∙ (map-append tag_view old (t ∷ [])
    ∙ (ap (λ (z : Tags). z ++ tag_view t ∷ []) h
    ∙ (ap (λ (z : Option (List ℕ)). tags_at (take k (import_values imports)) (take k positions) ++ z ∷ []) is
    ∙ sym (tags_more (import_values imports) positions k i p (slice_get-map import_value imports k ∙ ap (option_map import_value) (slice_get-get_or imports k d lt))
    (slice_get-get_or positions k e also)))))

-- ---- adapters, one after another

pub at_index : (k : ℕ) (adapters : List AdapterModule) (x : AdapterModule) → k < length adapters → x ≡ get_or adapters k x
    → slice_get (map adapter_view adapters) k ≡ Some (adapter_view x)
at_index k adapters x lt is =
    slice_get-map adapter_view adapters k ∙ (ap (option_map adapter_view) (slice_get-get_or adapters k x lt) ∙ ap (λ (z : AdapterModule). Some (adapter_view z)) (sym is))

abbrev pub NotesSoFar : List ImportValue → List AdapterView → ℕ → EntriesView → EntriesView → Type 0
NotesSoFar imports adapters k old now = NotesParts (AreJoined k (AreFoundAt adapters)) (λ q. AreJoined k (ArePartsAt imports adapters q)) old now

pub far_none : (imports : List ImportValue) (adapters : List AdapterView) (old : EntriesView) → NotesSoFar imports adapters 0 old old
far_none imports adapters old = record {
  found = [];
  are_found = none_joined (AreFoundAt adapters);
  listed = lists_none old;
  each = λ q. ([], none_joined (ArePartsAt imports adapters q), no_more (parts_of old q));
}

pub far_next : (imports : List ImportValue) (adapters : List AdapterView) (k : ℕ) (a : AdapterView) (old now new : EntriesView) → slice_get adapters k ≡ Some a
    → NotesSoFar imports adapters k old now → NotesThis imports a now new → NotesSoFar imports adapters (k + 1) old new
far_next imports adapters k a old now new at s (tags, are, n) = record {
  found = s.found ++ n.found;
  are_found = one_joined k (AreFoundAt adapters) s.found n.found s.are_found
      (λ z e. (tags, subst (λ (y : AdapterView). AreAdapterTags y tags) (same_Some a z (sym at ∙ e)) are, n.are_found));
  listed = lists_more old now new s.found n.found s.listed n.listed;
  each = λ q.
      let b = s.each q in
      let c = n.each q in (
        b.0 ++ c.0,
        one_joined k (ArePartsAt imports adapters q) b.0 c.0 b.1
            (λ z e. subst (λ (y : AdapterView). (t : Tags) × AreAdapterTags y t × ArePartsOf t q (IsAdapterPartOf q (adapter_by imports y t)) c.0) (same_Some a z (sym at ∙ e))
            (tags, are, c.1)),
        c.2 ∙ (ap (with_adapters c.0) b.2 ∙ with_both (parts_of old q) b.0 c.0),
      );
}

pub far_all : (imports : List ImportValue) (adapters : List AdapterView) (k : ℕ) (old new : EntriesView) → k ≡ length adapters → NotesSoFar imports adapters k old new
    → NotesAdaptersOf imports adapters old new
far_all imports adapters k old new all s = subst (λ (n : ℕ). NotesSoFar imports adapters n old new) all s

-- ---- all entries

module _ (p : Modules) (w : ModulesView) (v : AreView p w) (start main adapters cores sorted : EntriesView) (none : start ≡ [])
    (in_main : NotesMainOf (main_view p.main) w.given start main)
    (in_adapters : NotesAdaptersOf (code_of (main_view p.main)).imports (map adapter_view p.adapters.items) main adapters)
    (in_cores : NotesCores (code_of (main_view p.main)).imports w.given (map core_view p.core.items) adapters cores) (order : IsSorted cores sorted)
  where
    code : code_of (main_view p.main) ≡ code_of w.main
    code = ap code_of v.main

    abbrev all_found : List (List ℕ)
    all_found = named_in (main_tags w.given (code_of w.main).imports) ++ (in_adapters.found ++ in_cores.found)

    interfaces : interfaces_of cores ≡ first_occurrences all_found
    interfaces =
        let tags = named_in (main_tags w.given (code_of (main_view p.main)).imports) in
        let both = lists_more start main adapters tags in_adapters.found in_main.listed in_adapters.listed in
        lists_more start adapters cores (tags ++ in_adapters.found) in_cores.found both in_cores.listed [] (ap interfaces_of none)
        ∙ (ap first_occurrences (append_assoc tags in_adapters.found in_cores.found)
        ∙ ap (λ (m : ModuleValue). first_occurrences (named_in (main_tags w.given m.imports) ++ (in_adapters.found ++ in_cores.found))) code)

    entry_is : (e : EntryView) → Contains sorted e → IsEntry w e
    entry_is e there =
        let found : parts_of cores e.0 ≡ e.1 = sorted_part all_found cores sorted interfaces order e there in
        let a = in_main.each e.0 in
        let b = in_adapters.each e.0 in
        let d = in_cores.each e.0 in
        let noted : parts_of cores e.0 ≡ with_adapters (b.0 ++ d.0) (with_main a.0 no_parts) =
        d.2 ∙ (ap (with_adapters d.0) (b.2 ∙ ap (with_adapters b.0) (a.2 (ap (λ (z : EntriesView). parts_of z e.0) none)))
        ∙ with_both (with_main a.0 no_parts) b.0 d.0) in
        let is : with_adapters (b.0 ++ d.0) (with_main a.0 no_parts) ≡ e.1 = sym noted ∙ found in
        record {
          main = subst (λ (z : PartsView). IsMainPartOf (code_of w.main) (segments_of w.main) (main_tags w.given (code_of w.main).imports) e.0 z.main) is
              (subst (λ (s : Option SegmentsValue). IsMainPartOf (code_of w.main) s (main_tags w.given (code_of w.main).imports) e.0 a.0) (ap segments_of v.main)
              (subst (λ (m : ModuleValue). IsMainPartOf m (segments_of (main_view p.main)) (main_tags w.given m.imports) e.0 a.0) code a.1));
          adapters = record {
            of_adapters = b.0;
            are_of_adapters = subst (λ (m : ModuleValue). AreParts m.imports w.adapters e.0 b.0) code
                (subst (λ (z : List AdapterView). AreParts (code_of (main_view p.main)).imports z e.0 b.0) v.adapters b.1);
            of_core = d.0;
            are_of_core = subst (λ (m : ModuleValue). AreCoreUses m.imports w.given w.core e.0 d.0) code
                (subst (λ (z : List CoreView). AreCoreUses (code_of (main_view p.main)).imports w.given z e.0 d.0) v.core d.1);
            are = ap (λ (z : PartsView). z.adapters) (sym is);
          };
          types = ap (λ (z : PartsView). z.types) (sym is);
        }

    pub are_entries : AreEntries w sorted
    are_entries = record {
      found = in_adapters.found;
      are_found = subst (λ (z : List AdapterView). AreFound z in_adapters.found) v.adapters in_adapters.are_found;
      core = in_cores.found;
      are_core = subst (λ (z : List CoreView). AreCoreFound w.given z in_cores.found) v.core in_cores.are_found;
      names = first_occurrences all_found;
      are_names = refl;
      each = entry_is;
      all = λ name. let s = sorted_names cores sorted order name in
          (λ c. subst (λ (z : List (List ℕ)). Contains z name) interfaces (s.0 c), λ c. s.1 (subst (λ (z : List (List ℕ)). Contains z name) (sym interfaces) c));
      ordered = subst (λ (z : List (List ℕ)). AllPairs (IsListedBefore z) sorted) interfaces order.ordered;
    }

-- ---- texts

pub names_are : (p : Modules) (w : ModulesView) (names : List GlobalNameValue) → AreView p w → AreMainNames (bytes_in p.main) (main_view p.main) names
    → AreMainNames w.bytes w.main names
names_are p w names v are =
    subst (λ z. AreMainNames z w.main names) v.bytes (subst (λ z. AreMainNames (bytes_in p.main) z names) v.main are)

pub text_is : (p : Modules) (names : List GlobalNameValue) (entries : List EntryView) (text : List ℕ) → AreMainNames (bytes_in p.main) (main_view p.main) names
    → ((w : ModulesView) → AreView p w → AreEntries w entries) → text ≡ entry_lines names entries → IsImportsTextIn p text
text_is p names entries text are each is w v = (names, entries, names_are p w names v are, each w v, is)

pub json_is : (p : Modules) (names : List GlobalNameValue) (entries : List EntryView) (text : List ℕ) → AreMainNames (bytes_in p.main) (main_view p.main) names
    → ((w : ModulesView) → AreView p w → AreEntries w entries) → text ≡ print (json_tokens (entries_json names entries)) ++ codes "\n"
    → tokens (print (json_tokens (entries_json names entries))) ≡ json_tokens (entries_json names entries) → IsImportsJsonIn p text
json_is p names entries text are each put back w v = (names, entries, names_are p w names v are, each w v, put, back)
