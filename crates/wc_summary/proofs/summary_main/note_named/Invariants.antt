use Rattle.std.proofs.Common.{take}
use Rattle.wc_summary.specs.Entries.{entries_view}
use Rattle.wc_summary.specs.Private.SummaryMain.{NotesNamed}
use Rattle.wc_summary.proofs.summary_main.note_named.Given as goal

abbrev pub invariant-loop-number : goal.invariant-loop-number
invariant-loop-number l = NotesNamed l.owners l.function (take l.number-index l.named) (entries_view l.fn.entries.entries) (entries_view l.entries.entries)
