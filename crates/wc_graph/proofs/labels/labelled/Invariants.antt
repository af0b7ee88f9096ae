use Rattle.wc_graph.specs.Private.Labels.{AreNoted}
use Rattle.wc_graph.proofs.labels.labelled.Given as goal

abbrev pub invariant-loop-item : goal.invariant-loop-item
invariant-loop-item l = AreNoted l.labels l.item l.waiting.items
