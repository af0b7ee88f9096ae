use Rattle.wc_graph.specs.Private.Fronts.{IsReady}
use Rattle.wc_graph.specs.Private.Ways.{ArePositions, IsFront}
use Rattle.wc_graph.proofs.WayLemmas.{AreMarked}
use Rattle.wc_graph.proofs.fronts.find_dominators.Given as goal

abbrev pub invariant-loop-index : goal.invariant-loop-index
invariant-loop-index g l = record {
  ready : IsReady l.front (g.G.Graph.size l.graph);
  stops : ArePositions l.targets l.way (g.G.Graph.size l.graph) l.front.positions.items;
  front : IsFront (g.G.Graph.names l.graph) l.roots l.way l.front.positions.items l.index l.front.search.order.items l.front.next l.front.last;
  marked : AreMarked (g.G.Graph.names l.graph) l.roots l.targets l.way l.index l.marks.items;
}
