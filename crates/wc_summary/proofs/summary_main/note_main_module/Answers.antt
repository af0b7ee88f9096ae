use Rattle.std.proofs.Common.{◌∙◌, List, Option, ap, length, subst, sym, ℕ}
use Rattle.std.proofs.lemmas.List.{length-map}
use Rattle.std.proofs.lemmas.Result.{on_ok_weaker}
use Rattle.wc_read.specs.Modules.{module_value}
use Rattle.wc_segments.specs.Segments.{segments_value}
use Rattle.wc_graph.specs.Positions.{AreBelow}
use Rattle.wc_summary.specs.Entries.{entries_view, interfaces_of}
use Rattle.wc_summary.specs.Leads.{tag_view, tags_view}
use Rattle.wc_summary.specs.Private.SummaryMain.{CountsEach, NotesOf}
use Rattle.wc_summary.proofs.MainNoteLemmas.{noted_followed, noted_unread, places_sized}
use Rattle.wc_summary.proofs.summary_main.note_main_module.Goals as goal

pub note_followed-requires-clause-sized : goal.note_followed-requires-clause-sized
note_followed-requires-clause-sized c =
    let mid = entries_view c.place_tags.new.entries.entries in
    let places = c.in_ok-places.places.items in
    ap length c.deref-in-Some.ensures.value
    ∙ (places_sized (interfaces_of mid) places (tags_view c.args.tags.now) c.in_ok-places.ensures.at.are ∙ (length-map c.args.tags.now tag_view ∙ c.requires))

pub note_followed-requires-clause-below : goal.note_followed-requires-clause-below
note_followed-requires-clause-below c =
    let mid = entries_view c.place_tags.new.entries.entries in
    let counted = entries_view c.count_each.new.entries.entries in
    let places = c.in_ok-places.places.items in
    let counts : CountsEach places mid counted = subst (λ (l : List (Option ℕ)). CountsEach l mid counted) c.deref.ensures.value c.count_each.ensures in
    subst (AreBelow (length (interfaces_of counted))) (sym c.deref-in-Some.ensures.value)
    (subst (λ (l : List (List ℕ)). AreBelow (length l) places) (sym counts.listed) c.in_ok-places.ensures.at.below)

pub returns-in-Some : goal.returns-in-Some
returns-in-Some c =
    let m = module_value c.args.code.now in
    let old = entries_view c.args.entries.now.entries in
    let mid = entries_view c.place_tags.new.entries.entries in
    let counted = entries_view c.count_each.new.entries.entries in
    let places = c.in_ok-places.places.items in
    let s = segments_value c.in-Some.segments.now in
    let new = entries_view c.note_followed.new.entries.entries in
    let counts : CountsEach places mid counted = subst (λ (l : List (Option ℕ)). CountsEach l mid counted) c.deref.ensures.value c.count_each.ensures in
    rw c.in-Some.is (on_ok_weaker c.note_followed.result
    (λ notes. noted_followed m (tags_view c.args.tags.now) places old mid counted c.in_ok-places.ensures counts s new
    (subst (λ (l : List (Option ℕ)). NotesOf m s l counted new) c.deref-in-Some.ensures.value notes))
    c.note_followed.ensures)

pub returns : goal.returns
returns c =
    let m = module_value c.args.code.now in
    let old = entries_view c.args.entries.now.entries in
    let mid = entries_view c.place_tags.new.entries.entries in
    let counted = entries_view c.count_each.new.entries.entries in
    let places = c.in_ok-places.places.items in
    let counts : CountsEach places mid counted = subst (λ (l : List (Option ℕ)). CountsEach l mid counted) c.deref.ensures.value c.count_each.ensures in
    rw c.in-None.is (noted_unread m (tags_view c.args.tags.now) places old mid counted c.in_ok-places.ensures counts)
