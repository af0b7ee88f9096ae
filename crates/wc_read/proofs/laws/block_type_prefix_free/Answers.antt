use Rattle.wc_read.specs.Operators.{SpellsBlockType}
use Rattle.wc_read.specs.Reading.Instructions.{block_type_at}
use Rattle.wc_read.proofs.FormatLemmas.{prefix_free}
use Rattle.wc_read.proofs.OperatorsLemmas.{block_type_meets}
use Rattle.wc_read.proofs.laws.block_type_prefix_free.Goals as goal

pub returns : goal.returns
returns c = prefix_free SpellsBlockType block_type_at block_type_meets
