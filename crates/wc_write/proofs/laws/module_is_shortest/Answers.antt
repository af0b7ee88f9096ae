use Rattle.wc_write.proofs.ShortestModuleLemmas.{module_shortest}
use Rattle.wc_write.proofs.laws.module_is_shortest.Goals as goal

pub returns : goal.returns
returns c = module_shortest
