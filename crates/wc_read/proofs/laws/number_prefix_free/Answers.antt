use Rattle.wc_read.specs.Formats.{SpellsNumber}
use Rattle.wc_read.specs.Reading.Reader.{number_at}
use Rattle.wc_read.proofs.MeetsLemmas.{one_spelling, number_meets}
use Rattle.wc_read.proofs.laws.number_prefix_free.Goals as goal

pub returns : goal.returns
returns c = λ bits a b rest others x y. one_spelling (SpellsNumber bits) (number_at bits) (number_meets bits) a b x y rest others
