-- What a component imports of each interface, once its modules and types are noted.
use Rattle.std.proofs.Common.{◌≡◌, ℕ, List, [], ◌++◌, Contains, sym, ◌∙◌, ap, subst, append_assoc}
use Rattle.std.specs.Map.{keys_of}
use Rattle.wc_texts.specs.Names.{first_occurrences}
use Rattle.wc_summary.specs.Entries.{EntriesView, IsSorted, interfaces_of, no_parts, parts_of, with_adapters, with_main, with_types}
use Rattle.wc_summary.specs.Summary.{AdapterPartView, EntryView, MainPartView, PartsView}
use Rattle.wc_summary.proofs.ListedLemmas.{sorted_names, sorted_part}
use Rattle.wc_summary.proofs.TagLemmas.{lists_more}
use Rattle.wc_world.specs.Views.{ComponentWorldView}
use Rattle.wc_ways.specs.Imports.{AreEntries, AreParts, IsEntry, IsMainPart, all_named, leader, shared_in, typed_in, types_of, with_modules}
use Rattle.wc_ways.specs.Private.Notes.{NotesAdapters, NotesTypes}
use Rattle.wc_ways.specs.Private.SummaryMain.{NotesMain, NotesMainOf}
use Rattle.wc_ways.specs.Private.SummaryShared.{SharesAll}

-- ---- all entries

module _ (w : ComponentWorldView) (start main adapters types shared sorted : EntriesView) (none : start ≡ []) (in_main : NotesMain w start main)
    (in_adapters : NotesAdapters w main adapters) (in_types : NotesTypes w adapters types) (in_shared : SharesAll w types shared) (order : IsSorted shared sorted)
  where
    abbrev own : NotesMainOf w in_main.module_view start main
    own = in_main.notes

    abbrev names : List (List ℕ)
    names = own.found ++ (in_adapters.found ++ keys_of (typed_in w))

    noted_names : interfaces_of types ≡ first_occurrences names
    noted_names =
        lists_more start adapters types (own.found ++ in_adapters.found) (keys_of (typed_in w))
        (lists_more start main adapters own.found in_adapters.found own.listed in_adapters.listed) in_types.listed [] (ap interfaces_of none)
        ∙ ap first_occurrences (append_assoc own.found in_adapters.found (keys_of (typed_in w)))

    names_are : interfaces_of shared ≡ first_occurrences (all_named w names)
    names_are = in_shared.listed names noted_names ∙ ap (λ z. first_occurrences (names ++ shared_in w z)) noted_names

    -- what is noted under a name
    record Noted (q : List ℕ) : Type 0 where
      main_part : MainPartView
      is_main : IsMainPart w in_main.module_view q main_part
      parts : List AdapterPartView
      are_parts : AreParts w q w.adapters parts
      is : parts_of types q ≡ with_types (types_of w q) (with_adapters parts (with_main main_part no_parts))

    noted : (q : List ℕ) → Noted q
    noted q =
        let (part, is_part, is_noted) = own.each q in
        let (parts, are_parts, are_noted) = in_adapters.each q in
        record {
          main_part = part;
          is_main = is_part;
          parts = parts;
          are_parts = are_parts;
          is = in_types.each q ∙ ap (with_types (types_of w q)) (are_noted ∙ ap (with_adapters parts) (is_noted (ap (λ (z : EntriesView). parts_of z q) none)));
        }

    entry_is : (e : EntryView) → Contains sorted e → IsEntry w in_main.module_view e
    entry_is e there =
        let found : parts_of shared e.0 ≡ e.1 = sorted_part (all_named w names) shared sorted names_are order e there in
        let first = noted (leader w e.0) in
        let own_name = noted e.0 in
        let is : with_modules (with_types (types_of w (leader w e.0)) (with_adapters first.parts (with_main first.main_part no_parts)))
        (with_types (types_of w e.0) (with_adapters own_name.parts (with_main own_name.main_part no_parts))) ≡ e.1 =
        (λ i. with_modules (sym first.is i) (sym own_name.is i)) ∙ (sym (in_shared.each e.0) ∙ found) in
        record {
          main = subst (λ (p : PartsView). IsMainPart w in_main.module_view (leader w e.0) p.main) is first.is_main;
          adapters = subst (λ (p : PartsView). AreParts w (leader w e.0) w.adapters p.adapters) is first.are_parts;
          types = ap (λ (p : PartsView). p.types) (sym is);
        }

    pub are_entries : AreEntries w sorted
    are_entries = record {
      main = in_main.module_view;
      is_main = in_main.is_module;
      names = interfaces_of shared;
      are_names = (own.found, in_adapters.found, own.are_found, in_adapters.are_found, names_are);
      each = entry_is;
      all = sorted_names shared sorted order;
      ordered = order.ordered;
    }
