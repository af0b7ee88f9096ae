use Rattle.wc_graph.proofs.MarkLemmas.{AreOthersTo}
use Rattle.wc_graph.proofs.marks.others.Given as goal

abbrev pub invariant-loop-position : goal.invariant-loop-position
invariant-loop-position l = AreOthersTo l.sources l.labels l.position l.others.items
