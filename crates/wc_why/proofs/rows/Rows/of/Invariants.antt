use Rattle.wc_why.proofs.RowLemmas.{AreRowsTo}
use Rattle.wc_why.proofs.rows.Rows.of.Given as goal

abbrev pub invariant-loop-item : goal.invariant-loop-item
invariant-loop-item g l =
    AreRowsTo (g.G.Graph.size l.graph) (g.G.Graph.names l.graph) (g.G.Graph.is_closed l.graph) l.starts.items l.names.items l.closed.items l.item
