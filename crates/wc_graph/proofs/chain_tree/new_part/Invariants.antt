use Rattle.std.proofs.Common.{◌<◌, length}
use Rattle.wc_graph.proofs.ChainTreeLemmas.{IsWalkedBack}
use Rattle.wc_graph.proofs.chain_tree.new_part.Given as goal

abbrev pub invariant-loop-new : goal.invariant-loop-new
invariant-loop-new l = record {
  within : l.at < length l.finder;
  walked : IsWalkedBack l.finder l.places l.target l.at l.new.items;
}

abbrev pub decreases-loop-new : goal.decreases-loop-new
decreases-loop-new l = l.at
