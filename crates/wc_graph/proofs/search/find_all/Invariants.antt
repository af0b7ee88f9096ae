use Rattle.std.proofs.Common.{◌≡◌, ◌-◌, vec_len}
use Rattle.wc_graph.specs.Private.Search.{finds}
use Rattle.wc_graph.proofs.SearchLemmas.{HasSearched}
use Rattle.wc_graph.proofs.search.find_all.Given as goal

abbrev pub invariant-loop-next : goal.invariant-loop-next
invariant-loop-next g l = record {
  at : HasSearched (g.G.Graph.names l.graph) (g.G.Graph.is_closed l.graph) l.roots (finds l.search) l.search.order.items l.finder.items l.next;
  size : vec_len l.search.seen ≡ g.G.Graph.size l.graph;
}

abbrev pub decreases-loop-next : goal.decreases-loop-next
decreases-loop-next g l = g.G.Graph.size l.graph - l.next
