use Rattle.wc_graph.proofs.MarkLemmas.{AreGatheredTo}
use Rattle.wc_graph.proofs.marks.gather.Given as goal

abbrev pub invariant-loop-item : goal.invariant-loop-item
invariant-loop-item l = AreGatheredTo l.words l.owners l.count l.item l.gathered.items
