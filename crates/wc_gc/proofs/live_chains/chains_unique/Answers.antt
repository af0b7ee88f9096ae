use Rattle.wc_graph.proofs.OneChainLemmas.{one_chain}
use Rattle.wc_gc.proofs.live_chains.chains_unique.Goals as goal

pub returns : goal.returns
returns c = λ names roots x a b p q. one_chain names roots x a b p q
