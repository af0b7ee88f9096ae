-- What is noted of the main module.
use Rattle.std.proofs.Common.{◌≡◌, ◌<◌, ◌+◌, ℕ, List, [], ◌∷◌, ◌++◌, get_or, length, map, take, refl, sym, ◌∙◌, ap, subst}
use Rattle.std.proofs.lemmas.List.{length-map, map-append}
use Rattle.std.specs.Prelude.{Option, String}
use Rattle.std.specs.declared.alloc.Global.{Global}
use Rattle.wc_import_paths.specs.MainModules.{MainView, code_of, segments_of, unread, whole}
use Rattle.wc_maps.proofs.ListLemmas.{passed_more}
use Rattle.wc_read.specs.Imports.{ImportValue, import_value, import_values}
use Rattle.wc_read.specs.Modules.{ModuleValue}
use Rattle.wc_read.specs.declared.types.Import.{Import}
use Rattle.wc_segments.specs.Segments.{SegmentsValue}
use Rattle.wc_summary.specs.Entries.{EntriesView}
use Rattle.wc_summary.specs.Leads.{Tags, named_in, tag_view, tags_view}
use Rattle.wc_summary.specs.Notes.{NotesMainModule}
use Rattle.wc_validate.specs.Imports.Entries.{Records}
use Rattle.wc_world.specs.Views.{ComponentWorldView}
use Rattle.wc_ways.specs.Imports.{main_tags}
use Rattle.wc_ways.specs.Tags.{tag_in, tags_in}
use Rattle.wc_ways.specs.Private.SummaryMain.{NotesMainOf}

noted_by : (w : ComponentWorldView) (main : MainView) (old new : EntriesView) → NotesMainModule (code_of main) (segments_of main) (main_tags w (code_of main)) old new
    → NotesMainOf w main old new
noted_by w (whole f) old new notes = record {
  found = named_in (main_tags w f.code);
  are_found = refl;
  listed = notes.listed;
  each = λ interface. let n = notes.each interface in (n.0, n.1, n.2);
}
noted_by w (unread m why) old new notes = record {
  found = named_in (main_tags w m);
  are_found = refl;
  listed = notes.listed;
  each = λ interface. let n = notes.each interface in (n.0, n.1, n.2);
}

-- by what the code has of it
pub main_noted : (w : ComponentWorldView) (main : MainView) (m : ModuleValue) (s : Option SegmentsValue) (tags : Tags) (old new : EntriesView) → m ≡ code_of main → s ≡ segments_of main
    → tags ≡ main_tags w m → NotesMainModule m s tags old new → NotesMainOf w main old new
main_noted w main m s tags old new same segments tagged notes =
    noted_by w main old new
    (subst (λ (z : ModuleValue). NotesMainModule z (segments_of main) (main_tags w (code_of main)) old new) same
    (subst (λ (z : Option SegmentsValue). NotesMainModule m z (main_tags w (code_of main)) old new) segments
    (subst (λ (z : Tags). NotesMainModule m s z old new) (tagged ∙ ap (main_tags w) same) notes)))

-- each import has a tag
pub tags_sized : (w : ComponentWorldView) (records : Records) (imports : List ImportValue) (tags : List (Option (String Global))) → tags_view tags ≡ tags_in w records imports
    → length tags ≡ length imports
tags_sized w records imports tags is = sym (length-map tags tag_view) ∙ (ap length is ∙ length-map imports (tag_in w records))

-- the tag of one import more
pub tags_next : (w : ComponentWorldView) (records : Records) (imports : List Import) (k : ℕ) (d i : Import) (old new : List (Option (String Global))) (t : Option (String Global)) → k < length imports
    → i ≡ get_or imports k d → tag_view t ≡ tag_in w records (import_value i) → new ≡ old ++ t ∷ [] → tags_view old ≡ tags_in w records (import_values (take k imports))
    → tags_view new ≡ tags_in w records (import_values (take (k + 1) imports))
tags_next w records imports k d i old new t within is tagged put h =
    let f : ImportValue → Option (List ℕ) = tag_in w records in
    ap tags_view put ∙ (map-append tag_view old (t ∷ [])
    ∙ ((λ j. h j ++ tagged j ∷ [])
    ∙ (ap (λ (z : Import). tags_in w records (import_values (take k imports)) ++ f (import_value z) ∷ []) is
    ∙ (sym (map-append f (import_values (take k imports)) (import_value (get_or imports k d) ∷ []))
    ∙ ap (map f) (sym (passed_more import_value imports k d within))))))
