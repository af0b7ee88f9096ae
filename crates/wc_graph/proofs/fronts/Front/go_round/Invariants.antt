use Rattle.std.proofs.Common.{◌-◌}
use Rattle.wc_graph.specs.Private.Fronts.{IsReady, KeepsFront}
use Rattle.wc_graph.proofs.fronts.Front.go_round.Given as goal

abbrev pub invariant-loop-self : goal.invariant-loop-self
invariant-loop-self g l = record {
  ready : IsReady l.self (g.G.Graph.size l.graph);
  kept : KeepsFront (g.G.Graph.names l.graph) l.initial.self l.self;
}

abbrev pub decreases-loop-self : goal.decreases-loop-self
decreases-loop-self g l = g.G.Graph.size l.graph - l.self.next
