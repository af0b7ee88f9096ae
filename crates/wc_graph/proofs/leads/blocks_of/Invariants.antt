use Rattle.wc_graph.specs.Positions.{sets_view}
use Rattle.wc_graph.specs.Private.Leads.{AreBlocksTo}
use Rattle.wc_graph.proofs.leads.blocks_of.Given as goal

abbrev pub invariant-loop-block : goal.invariant-loop-block
invariant-loop-block g l = AreBlocksTo (g.G.Graph.names l.graph) l.sources l.owners l.count l.block (sets_view l.blocks.items)
