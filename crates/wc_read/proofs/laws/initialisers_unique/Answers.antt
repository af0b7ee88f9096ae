use Rattle.wc_read.specs.Inits.{SpellsInit}
use Rattle.wc_read.specs.Reading.Inits.{init_at}
use Rattle.wc_read.proofs.MeetsLemmas.{one_value}
use Rattle.wc_read.proofs.InitsLemmas.{init_meets}
use Rattle.wc_read.proofs.laws.initialisers_unique.Goals as goal

pub returns : goal.returns
returns c = one_value SpellsInit init_at init_meets
