use Rattle.wc_read.specs.Operators.{SpellsMemArg}
use Rattle.wc_read.specs.Reading.Instructions.{mem_arg_at}
use Rattle.wc_read.proofs.FormatLemmas.{prefix_free}
use Rattle.wc_read.proofs.OperatorsLemmas.{mem_arg_meets}
use Rattle.wc_read.proofs.laws.memory_argument_prefix_free.Goals as goal

pub returns : goal.returns
returns c = prefix_free SpellsMemArg mem_arg_at mem_arg_meets
