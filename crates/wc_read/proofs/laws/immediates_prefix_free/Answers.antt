use Rattle.wc_read.specs.Operators.{SpellsImmediates}
use Rattle.wc_read.specs.Reading.Instructions.{immediates_at}
use Rattle.wc_read.proofs.FormatLemmas.{prefix_free}
use Rattle.wc_read.proofs.OperatorsLemmas.{immediates_meet}
use Rattle.wc_read.proofs.laws.immediates_prefix_free.Goals as goal

pub returns : goal.returns
returns c = λ form. prefix_free (SpellsImmediates form) (immediates_at form) (immediates_meet form)
