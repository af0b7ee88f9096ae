use Rattle.std.proofs.Common.{take}
use Rattle.wc_graph.specs.Private.Marks.{AreLabelsOf}
use Rattle.wc_graph.proofs.marks.mark_each.Given as goal

abbrev pub invariant-loop-position : goal.invariant-loop-position
invariant-loop-position l = AreLabelsOf l.sources (take l.position-index l.positions) l.bit l.initial.labels.items l.labels.items
