use Rattle.wc_read.specs.BodyOperators.{operators_left}
use Rattle.wc_read.proofs.BodyOperatorsLemmas.{done_is, done_is_not}
use Rattle.wc_read.proofs.body_operators.Operators.is_done.Goals as goal

pub returns-then-is_empty : goal.returns-then-is_empty
unfolding operators_left
returns-then-is_empty c = done_is _ _ _ c.if-is_empty.ensures c.is_empty-then-is_empty.ensures

pub returns-else-is_empty : goal.returns-else-is_empty
unfolding operators_left
returns-else-is_empty c = done_is_not _ _ _ c.is_empty.ensures c.if-is_empty.ensures
