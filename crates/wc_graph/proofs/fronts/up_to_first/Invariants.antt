use Rattle.wc_graph.proofs.StopLemmas.{NoTarget}
use Rattle.wc_graph.proofs.fronts.up_to_first.Given as goal

abbrev pub invariant-loop-position : goal.invariant-loop-position
invariant-loop-position l = NoTarget l.places l.chain l.position
