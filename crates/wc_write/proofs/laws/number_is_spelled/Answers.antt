use Rattle.wc_write.proofs.NumberTextLemmas.{number_spelled}
use Rattle.std.proofs.Common.{arith}
use Rattle.wc_write.proofs.laws.number_is_spelled.Goals as goal

pub returns : goal.returns
returns c = λ bits n width fits. number_spelled 9 bits n (omega arith) fits
