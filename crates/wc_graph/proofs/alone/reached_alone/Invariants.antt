use Rattle.std.proofs.Common.{◌-◌, length}
use Rattle.wc_graph.specs.Positions.{sets_view}
use Rattle.wc_graph.proofs.AloneLemmas.{AreAloneTo}
use Rattle.wc_graph.proofs.alone.reached_alone.Given as goal

abbrev pub invariant-loop-alloc : goal.invariant-loop-alloc
invariant-loop-alloc g l = AreAloneTo (g.G.Graph.names l.graph) l.sources l.items (sets_view l.sets) l.found.items

abbrev pub decreases-loop-alloc : goal.decreases-loop-alloc
decreases-loop-alloc g l = length l.sets - length l.found.items
