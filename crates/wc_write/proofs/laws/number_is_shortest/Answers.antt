use Rattle.wc_write.proofs.NumberTextLemmas.{number_shortest}
use Rattle.wc_write.proofs.laws.number_is_shortest.Goals as goal

pub returns : goal.returns
returns c = λ bits n bytes all s. number_shortest 9 s all
