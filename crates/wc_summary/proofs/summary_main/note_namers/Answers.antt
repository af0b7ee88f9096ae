use Rattle.std.proofs.Common.{◌≡◌, false, rules, true}
use Rattle.wc_paths.specs.Graph.{graph_value}
use Rattle.wc_summary.specs.Entries.{entries_view}
use Rattle.wc_summary.specs.Private.SummaryMain.{is_reached_at}
use Rattle.wc_summary.proofs.NamerLemmas.{up_to_more, up_to_none, up_to_skipped}
use Rattle.wc_summary.proofs.summary_main.note_namers.Goals as goal

pub loop-index-init : goal.loop-index-init
loop-index-init c = up_to_none (graph_value c.args.graph.now) c.args.owners.now c.args.reached.now (entries_view c.args.entries.now.entries)

pub loop-index-preserved-then-not-is_reached : goal.loop-index-preserved-then-not-is_reached
loop-index-preserved-then-not-is_reached c =
    let off : is_reached_at (graph_value c.args.graph.now) c.args.reached.now c.loop-index.index ≡ false = search rules in
    up_to_skipped (graph_value c.args.graph.now) c.args.owners.now c.args.reached.now c.loop-index.index (entries_view c.args.entries.now.entries)
    (entries_view c.loop-index.entries.entries) c.loop-index.invariant off

pub loop-index-preserved : goal.loop-index-preserved
loop-index-preserved c =
    let on : is_reached_at (graph_value c.args.graph.now) c.args.reached.now c.loop-index.index ≡ true = search rules in
    up_to_more (graph_value c.args.graph.now) c.args.owners.now c.args.reached.now c.loop-index.index (entries_view c.args.entries.now.entries)
    (entries_view c.loop-index.entries.entries) c.loop-index.invariant (entries_view c.note_function.new.entries.entries) on c.in_ok-note_function.ensures
