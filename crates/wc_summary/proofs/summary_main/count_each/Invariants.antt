use Rattle.std.proofs.Common.{take}
use Rattle.wc_summary.specs.Entries.{entries_view}
use Rattle.wc_summary.specs.Private.SummaryMain.{CountsEach}
use Rattle.wc_summary.proofs.summary_main.count_each.Given as goal

abbrev pub invariant-loop-place : goal.invariant-loop-place
invariant-loop-place l = CountsEach (take l.place-index l.places) (entries_view l.fn.entries.entries) (entries_view l.entries.entries)
