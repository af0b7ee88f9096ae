use Rattle.std.proofs.Common.{take}
use Rattle.wc_paths.specs.Counts.{counts_value}
use Rattle.wc_summary.specs.Private.SummaryMain.{AreMarked}
use Rattle.wc_summary.proofs.summary_main.mark_roots.Given as goal

abbrev pub invariant-loop-root : goal.invariant-loop-root
invariant-loop-root l = AreMarked (counts_value l.counts) (take l.root-index l.roots) l.fn.labels.items l.labels.items
