use Rattle.wc_write.proofs.ShortestModuleLemmas.{init_shortest}
use Rattle.wc_write.proofs.laws.initialiser_is_shortest.Goals as goal

pub returns : goal.returns
returns c = init_shortest
