use Rattle.wc_graph.proofs.TreeLemmas.{PlacedTo}
use Rattle.wc_graph.proofs.tree.positions_of.Given as goal

abbrev pub invariant-loop-position : goal.invariant-loop-position
invariant-loop-position l = PlacedTo l.items l.size l.places.items l.position
