use Rattle.wc_write.proofs.WritableModuleLemmas.{init_is}
use Rattle.wc_write.proofs.laws.spelled_are_initialisers.Goals as goal

pub returns : goal.returns
returns c = init_is
