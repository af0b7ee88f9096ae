use Rattle.wc_read.proofs.ModulesLemmas.{modules_one}
use Rattle.wc_read.proofs.laws.modules_unique.Goals as goal

pub returns : goal.returns
returns c = modules_one
