use Rattle.std.proofs.Common.{List, Option, ◌∙◌, length, subst, sym, ℕ}
use Rattle.std.proofs.lemmas.Result.{on_ok_weaker}
use Rattle.wc_paths.specs.Graph.{graph_value}
use Rattle.wc_paths.specs.Items.{counts_of}
use Rattle.wc_paths.specs.Roots.{first_roots, second_roots}
use Rattle.wc_paths.proofs.PathLemmas.{graph_is}
use Rattle.wc_read.specs.Imports.{import_values}
use Rattle.wc_read.specs.Modules.{module_value}
use Rattle.wc_read.specs.declared.types.Import.{Import}
use Rattle.wc_segments.specs.Segments.{segments_value}
use Rattle.wc_graph.specs.Positions.{AreBelow}
use Rattle.wc_summary.specs.Entries.{entries_view, interfaces_of}
use Rattle.wc_summary.specs.Private.SummaryMain.{AreOwnersOf}
use Rattle.wc_summary.proofs.MainNamerLemmas.{notes_followed, owners_below}
use Rattle.wc_summary.proofs.summary_main.note_followed.Goals as goal
use Rattle.wc_summary.specs.Leads.{AreReached}

pub note_namers-requires-clause-below : goal.note_namers-requires-clause-below
note_namers-requires-clause-below c =
    let count = length (interfaces_of (entries_view c.args.entries.now.entries)) in
    subst (AreBelow count) (sym c.deref-2.ensures.value) (owners_below _ _ c.args.places.now _ count c.in_ok-owners.ensures c.requires.below)

pub returns : goal.returns
returns c =
    let g = graph_value c.in_ok-graph.graph in
    let m = module_value c.args.code.now in
    let s = segments_value c.args.segments.now in
    on_ok_weaker c.note_namers.result
    (λ h. notes_followed g m s c.args.places.now c.deref-2.result.now c.deref-3.result.now (entries_view c.args.entries.now.entries) (entries_view c.note_namers.new.entries.entries)
    (sym (c.in_ok-graph.ensures.graph ∙ graph_is c.args.code.now c.args.segments.now))
    (subst (λ (l : List Import). AreOwnersOf (counts_of g) (import_values l) c.args.places.now c.deref-2.result.now) c.deref.ensures.value
    (subst (λ (l : List (Option ℕ)). AreOwnersOf (counts_of g) (import_values c.deref.result.now) c.args.places.now l) (sym c.deref-2.ensures.value) c.in_ok-owners.ensures))
    (subst (λ (l : List ℕ). AreReached g (first_roots m) (second_roots s) l) (sym c.deref-3.ensures.value) c.in_ok-reached.ensures) h)
    c.note_namers.ensures
