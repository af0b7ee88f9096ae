use Rattle.wc_read.specs.Operators.{SpellsOpcode}
use Rattle.wc_read.specs.Reading.Instructions.{opcode_at}
use Rattle.wc_read.proofs.FormatLemmas.{prefix_free}
use Rattle.wc_read.proofs.OperatorsLemmas.{opcode_meets}
use Rattle.wc_read.proofs.laws.opcode_prefix_free.Goals as goal

pub returns : goal.returns
returns c = prefix_free SpellsOpcode opcode_at opcode_meets
