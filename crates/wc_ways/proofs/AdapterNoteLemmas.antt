-- What is noted of libraries, and of adapters one after another.
use Rattle.std.proofs.Common.{◌≡◌, zero, Bool, List, [], ◌∷◌, ◌++◌, refl, sym, ◌∙◌, ap, append_assoc, append-nil, subst, arith, Option, Some, None}
use Rattle.std.specs.Prelude.{ℕ, Contains, MatchOption}
use Rattle.std.specs.Map.{lookup}
use Rattle.std.specs.Str.{bytes_eq}
use Rattle.std.proofs.lemmas.List.Elements.{Contains-append_right}
use Rattle.wc_read.specs.Modules.{ModuleValue, SpellsModule}
use Rattle.wc_adapters.specs.Adapters.{AdapterView, LibraryView}
use Rattle.wc_summary.specs.Entries.{EntriesView, parts_of, with_adapters}
use Rattle.wc_summary.specs.Leads.{Tags, found_in}
use Rattle.wc_summary.specs.Notes.{NotesAdapterModule, NotesLibraryModule, NotesParts}
use Rattle.wc_summary.specs.Summary.{AdapterPartView}
use Rattle.wc_summary.proofs.AdapterPartLemmas.{no_more}
use Rattle.wc_summary.proofs.NotedLemmas.{adapter_by, wanted_as, with_both}
use Rattle.wc_summary.proofs.TagLemmas.{lists_more, lists_none}
use Rattle.wc_world.specs.Views.{ComponentWorldView, NamedWorldAdapter}
use Rattle.wc_ways.specs.Imports.{AreAdapterParts, AreInterfacesBy, AreInterfacesOf, AreLibraryParts, ArePartsBy, IsOfTrimmed, IsOfWasm, Saying, tags_of}
use Rattle.wc_ways.specs.Tags.{library_tags}
use Rattle.wc_ways.specs.Originals.{Original, is_wanted_of, required_of}
use Rattle.wc_ways.specs.Each.{AreEach}
use Rattle.wc_ways.specs.Private.SummaryAdapters.{NotesAdapter, NotesLibrary, NotesOriginal, NotesWasm, entry_of, info_of, original_in, world_of}
use Rattle.wc_ways.specs.Private.Notes.{NotesAdapters}
use Rattle.wc_ways.specs.declared.summary_adapters.Adapter.{Adapter}
use Rattle.wc_ways.proofs.EachLemmas.{each_more}

-- ---- one adapter after another

pub record AdaptersSoFar (w : ComponentWorldView) (rest : List NamedWorldAdapter) (old now : EntriesView) : Type 0 where
  pub passed : List NamedWorldAdapter
  pub split : passed ++ rest ≡ w.adapters
  pub notes : NotesParts (AreEach (AreInterfacesBy w) passed) (λ q. AreEach (ArePartsBy w q) passed) old now

pub far_start : (w : ComponentWorldView) (rest : List NamedWorldAdapter) (old : EntriesView) → rest ≡ w.adapters → AdaptersSoFar w rest old old
far_start w rest old e = record {
  passed = [];
  split = e;
  notes = record { found = []; are_found = refl; listed = lists_none old; each = λ q. ([], refl, no_more (parts_of old q)) };
}

pub far_one : (w : ComponentWorldView) (left rest : List NamedWorldAdapter) (y : NamedWorldAdapter) (old now new : EntriesView) → left ≡ y ∷ rest
    → NotesParts (AreInterfacesBy w y) (λ q. ArePartsBy w q y) now new → AdaptersSoFar w left old now → AdaptersSoFar w rest old new
far_one w left rest y old now new e n s = record {
  passed = s.passed ++ y ∷ [];
  split = append_assoc s.passed (y ∷ []) rest ∙ (ap (λ (z : List NamedWorldAdapter). s.passed ++ z) (sym e) ∙ s.split);
  notes = record {
    found = s.notes.found ++ n.found;
    are_found = each_more (AreInterfacesBy w) s.passed y s.notes.found n.found s.notes.are_found n.are_found;
    listed = lists_more old now new s.notes.found n.found s.notes.listed n.listed;
    each = λ q.
        let b = s.notes.each q in
        let c = n.each q in
        (b.0 ++ c.0, each_more (ArePartsBy w q) s.passed y b.0 c.0 b.1 c.1, c.2 ∙ (ap (with_adapters c.0) b.2 ∙ with_both (parts_of old q) b.0 c.0));
  };
}

pub far_end : (w : ComponentWorldView) (rest : List NamedWorldAdapter) (old now : EntriesView) → rest ≡ [] → AdaptersSoFar w rest old now → NotesAdapters w old now
far_end w rest old now e s =
    let all : s.passed ≡ w.adapters = sym (append-nil s.passed) ∙ (ap (λ (z : List NamedWorldAdapter). s.passed ++ z) (sym e) ∙ s.split) in
    record {
      found = s.notes.found;
      are_found = subst (λ (z : List NamedWorldAdapter). AreEach (AreInterfacesBy w) z s.notes.found) all s.notes.are_found;
      listed = s.notes.listed;
      each = λ q. let b = s.notes.each q in (b.0, subst (λ (z : List NamedWorldAdapter). AreEach (ArePartsBy w q) z b.0) all b.1, b.2);
    }

pub far_in : (w : ComponentWorldView) (left rest : List NamedWorldAdapter) (y : NamedWorldAdapter) (old now : EntriesView) → left ≡ y ∷ rest → AdaptersSoFar w left old now
    → Contains w.adapters y
far_in w left rest y old now e s =
    subst (λ (z : List NamedWorldAdapter). Contains z y) (ap (λ (z : List NamedWorldAdapter). s.passed ++ z) (sym e) ∙ s.split)
    (Contains-append_right s.passed (y ∷ rest) y (zero, omega arith, refl))

-- ---- what is noted by other words

pub notes_as : (F G : List (List ℕ) → Type 0) (P Q : List ℕ → List AdapterPartView → Type 0) (old new : EntriesView) → ((found : List (List ℕ)) → F found → G found)
    → ((q : List ℕ) (parts : List AdapterPartView) → P q parts → Q q parts) → NotesParts F P old new → NotesParts G Q old new
notes_as F G P Q old new f p n = record {
  found = n.found;
  are_found = f n.found n.are_found;
  listed = n.listed;
  each = λ q. let b = n.each q in (b.0, p q b.0 b.1, b.2);
}

module _ (g : Adapter) (old new : EntriesView) where
  -- of a library, of an adapter that was trimmed, and of one that the encoder hasn't
  pub library_adapter : (l : LibraryView) → (entry_of g).1.library_info ≡ Some l → NotesLibrary g old new → NotesAdapter g old new
  library_adapter l e n =
      notes_as (λ found. found ≡ found_in (library_tags (world_of g) (info_of g).imports)) (AreInterfacesBy (world_of g) (entry_of g))
      (λ q. AreLibraryParts (world_of g) q (entry_of g)) (λ q. ArePartsBy (world_of g) q (entry_of g)) old new
      (λ found h. subst (λ (o : Option LibraryView). MatchOption o (IsOfTrimmed AreInterfacesOf (world_of g) (entry_of g).0 (entry_of g).1.info found)
      (λ (x : LibraryView). found ≡ found_in (library_tags (world_of g) (info_of g).imports))) (sym e) h)
      (λ q parts h. subst (λ (o : Option LibraryView). MatchOption o (IsOfTrimmed (AreAdapterParts q) (world_of g) (entry_of g).0 (entry_of g).1.info parts)
      (λ (x : LibraryView). AreLibraryParts (world_of g) q (entry_of g) parts)) (sym e) h) n

  trimmed_by : {A : Type 0} (Is : Saying A) (L : LibraryView → List A → Type 0) (said : List A) → (entry_of g).1.library_info ≡ None
      → IsOfTrimmed Is (world_of g) g.name.now (info_of g) said
      → MatchOption (entry_of g).1.library_info (IsOfTrimmed Is (world_of g) (entry_of g).0 (entry_of g).1.info said) (λ (x : LibraryView). L x said)
  trimmed_by Is L said e h =
      subst (λ (o : Option LibraryView). MatchOption o (IsOfTrimmed Is (world_of g) (entry_of g).0 (entry_of g).1.info said) (λ (x : LibraryView). L x said)) (sym e) h

  pub trimmed_adapter : (a : AdapterView) → (entry_of g).1.library_info ≡ None → lookup (bytes_eq g.name.now) (world_of g).encoder.adapters ≡ Some a
      → NotesWasm g a.wasm old new → NotesAdapter g old new
  trimmed_adapter a e f n =
      notes_as (IsOfWasm AreInterfacesOf (world_of g) g.name.now (info_of g) a.wasm) (AreInterfacesBy (world_of g) (entry_of g))
      (λ q. IsOfWasm (AreAdapterParts q) (world_of g) g.name.now (info_of g) a.wasm) (λ q. ArePartsBy (world_of g) q (entry_of g)) old new
      (λ found h. trimmed_by AreInterfacesOf (λ x said. said ≡ found_in (library_tags (world_of g) (info_of g).imports)) found e
      (subst (λ (o : Option AdapterView). MatchOption o (found ≡ []) (λ (b : AdapterView). IsOfWasm AreInterfacesOf (world_of g) g.name.now (info_of g) b.wasm found)) (sym f) h))
      (λ q parts h. trimmed_by (AreAdapterParts q) (λ x said. AreLibraryParts (world_of g) q (entry_of g) said) parts e
      (subst (λ (o : Option AdapterView). MatchOption o (parts ≡ []) (λ (b : AdapterView). IsOfWasm (AreAdapterParts q) (world_of g) g.name.now (info_of g) b.wasm parts)) (sym f) h)) n

pub missing_adapter : (g : Adapter) (old : EntriesView) → (entry_of g).1.library_info ≡ None → lookup (bytes_eq g.name.now) (world_of g).encoder.adapters ≡ None
    → NotesAdapter g old old
missing_adapter g old e f = record {
  found = [];
  are_found = trimmed_by g old old AreInterfacesOf (λ x said. said ≡ found_in (library_tags (world_of g) (info_of g).imports)) [] e
      (subst (λ (o : Option AdapterView). MatchOption o (◌≡◌ {A = List (List ℕ)} [] []) (λ (b : AdapterView). IsOfWasm AreInterfacesOf (world_of g) g.name.now (info_of g) b.wasm [])) (sym f) refl);
  listed = lists_none old;
  each = λ q. (
    [],
    trimmed_by g old old (AreAdapterParts q) (λ x said. AreLibraryParts (world_of g) q (entry_of g) said) [] e
        (subst (λ (o : Option AdapterView). MatchOption o (◌≡◌ {A = List AdapterPartView} [] []) (λ (b : AdapterView). IsOfWasm (AreAdapterParts q) (world_of g) g.name.now (info_of g) b.wasm [])) (sym f) refl),
    no_more (parts_of old q),
  );
}

-- by the bytes that spell a module
pub wasm_noted : (g : Adapter) (wasm : List ℕ) (m : ModuleValue) → SpellsModule wasm m → (old new : EntriesView) → NotesOriginal (original_in g m) old new → NotesWasm g wasm old new
wasm_noted g wasm m s old new n =
    notes_as (AreInterfacesOf (original_in g m)) (IsOfWasm AreInterfacesOf (world_of g) g.name.now (info_of g) wasm) (λ q. AreAdapterParts q (original_in g m))
    (λ q. IsOfWasm (AreAdapterParts q) (world_of g) g.name.now (info_of g) wasm) old new (λ found h. (m, s, h)) (λ q parts h. (m, s, h)) n

-- ---- what the summary notes of a module

pub original_noted : (a : Original) (tags : Tags) (names : List (List ℕ)) (is : List ℕ → Bool) (old new : EntriesView) → tags ≡ tags_of a → names ≡ required_of a
    → ((e : List ℕ) → is e ≡ is_wanted_of a e) → NotesAdapterModule (adapter_by a.name a.value tags names is) old new → NotesOriginal a old new
original_noted a tags names is old new t n same h =
    wanted_as a.name a.value (tags_of a) (required_of a) is (is_wanted_of a) same old new
    (subst (λ (z : List (List ℕ)). NotesAdapterModule (adapter_by a.name a.value (tags_of a) z is) old new) n
    (subst (λ (z : Tags). NotesAdapterModule (adapter_by a.name a.value z names is) old new) t h))

pub library_noted : (g : Adapter) (tags : Tags) (old new : EntriesView) → tags ≡ library_tags (world_of g) (info_of g).imports
    → NotesLibraryModule g.name.now tags old new → NotesLibrary g old new
library_noted g tags old new same n = subst (λ (z : Tags). NotesLibraryModule g.name.now z old new) same n
