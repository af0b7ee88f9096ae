use Rattle.wc_graph.proofs.ChainTreeLemmas.{IsTreeTo}
use Rattle.wc_graph.proofs.chain_tree.tree_to.Given as goal

abbrev pub invariant-loop-target : goal.invariant-loop-target
invariant-loop-target l = IsTreeTo l.finder l.targets l.growth.order.items l.growth.from.items l.growth.places.items l.ends.items l.target-index
