use Rattle.wc_read.specs.Operators.{SpellsInstr}
use Rattle.wc_read.specs.Reading.Instructions.{instr_at}
use Rattle.wc_read.proofs.MeetsLemmas.{one_spelling}
use Rattle.wc_read.proofs.OperatorsLemmas.{instr_meets}
use Rattle.wc_read.proofs.laws.operator_prefix_free.Goals as goal

pub returns : goal.returns
returns c = λ a b rest others x y. one_spelling SpellsInstr instr_at instr_meets a b x y rest others
