use Rattle.wc_graph.specs.Positions.{sets_view}
use Rattle.wc_graph.proofs.LeadLemmas.{AreLeadsTo}
use Rattle.wc_graph.proofs.leads.leading.Given as goal

abbrev pub invariant-loop-owner : goal.invariant-loop-owner
invariant-loop-owner g l = AreLeadsTo (g.G.Graph.names l.graph) l.sources l.owners l.owner (sets_view l.leads.items)
