use Rattle.wc_graph.specs.Positions.{sets_view}
use Rattle.wc_graph.proofs.MarkLemmas.{AreSetLabelsTo}
use Rattle.wc_graph.proofs.marks.set_labels.Given as goal

abbrev pub invariant-loop-position : goal.invariant-loop-position
invariant-loop-position l = AreSetLabelsTo l.sources (sets_view l.sets) l.start l.size l.position l.labels.items
