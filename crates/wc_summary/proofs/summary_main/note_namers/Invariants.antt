use Rattle.wc_paths.specs.Graph.{graph_value}
use Rattle.wc_summary.specs.Entries.{entries_view}
use Rattle.wc_summary.specs.Private.SummaryMain.{NotesUpTo}
use Rattle.wc_summary.proofs.summary_main.note_namers.Given as goal

abbrev pub invariant-loop-index : goal.invariant-loop-index
invariant-loop-index l = NotesUpTo (graph_value l.graph) l.owners l.reached l.index (entries_view l.fn.entries.entries) (entries_view l.entries.entries)
