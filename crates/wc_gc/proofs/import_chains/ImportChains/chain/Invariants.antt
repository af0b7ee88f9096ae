use Rattle.std.proofs.Common.{◌<◌, length, reverse}
use Rattle.wc_graph.proofs.FinderChainLemmas.{IsWalked}
use Rattle.wc_gc.proofs.import_chains.ImportChains.chain.Given as goal

abbrev pub invariant-loop-at : goal.invariant-loop-at
invariant-loop-at l = record {
  within : l.at < length l.self.order.items;
  walked : IsWalked l.self.order.items l.self.finder.items l.at l.position (reverse l.items.items);
}

abbrev pub decreases-loop-at : goal.decreases-loop-at
decreases-loop-at l = l.at
