use Rattle.wc_read.specs.Formats.{SpellsNumber}
use Rattle.wc_read.specs.Reading.Reader.{number_at}
use Rattle.wc_read.proofs.MeetsLemmas.{one_value, number_meets}
use Rattle.wc_read.proofs.laws.numbers_unique.Goals as goal

pub returns : goal.returns
returns c = λ bits. one_value (SpellsNumber bits) (number_at bits) (number_meets bits)
