use Rattle.wc_read.specs.Inits.{SpellsInit}
use Rattle.wc_read.specs.Reading.Inits.{init_at}
use Rattle.wc_read.proofs.MeetsLemmas.{one_spelling}
use Rattle.wc_read.proofs.InitsLemmas.{init_meets}
use Rattle.wc_read.proofs.laws.initialiser_prefix_free.Goals as goal

pub returns : goal.returns
returns c = λ a b rest others x y. one_spelling SpellsInit init_at init_meets a b x y rest others
