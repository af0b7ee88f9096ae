use Rattle.std.proofs.Common.{◌≡◌, vec_len}
use Rattle.wc_graph.specs.Private.Labels.{IsSpreading, left}
use Rattle.wc_graph.proofs.labels.spread.Given as goal

abbrev pub invariant-loop-item : goal.invariant-loop-item
invariant-loop-item g l = record {
  at : IsSpreading (g.G.Graph.names l.graph) l.fn.labels.items l.spread.words.items l.spread.waiting.items;
  size : vec_len l.spread.words ≡ g.G.Graph.size l.graph;
}

abbrev pub decreases-loop-item : goal.decreases-loop-item
decreases-loop-item g l = left l.spread.words.items l.spread.waiting.items
