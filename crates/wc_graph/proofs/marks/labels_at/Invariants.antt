use Rattle.wc_graph.proofs.MarkLemmas.{AreLabelsTo}
use Rattle.wc_graph.proofs.marks.labels_at.Given as goal

abbrev pub invariant-loop-position : goal.invariant-loop-position
invariant-loop-position l = AreLabelsTo l.sources l.start l.size l.position l.labels.items
