use Rattle.wc_read.proofs.InitOperatorsLemmas.{index_init_read, index_init_shorter}
use Rattle.wc_read.proofs.reader.Reader.one_index_init.Goals as goal

pub overflow_sub-input : goal.overflow_sub-input
overflow_sub-input c = index_init_shorter _ _ _ _ _ _ _ c.in_ok-first.ensures.cases.0 (rw c.new-reader.ensures at c.in-Ok.ensures) c.in_ok-last.ensures.cases.0

pub returns-clause-read : goal.returns-clause-read
returns-clause-read c = rw c.split_at.ensures.front (index_init_read _ _ _ _ _ _ _ _ c.in_ok-first.ensures.cases.0 c.in_ok-space_named.ensures (rw c.new-reader.ensures at c.in-Ok.ensures) c.in_ok-last.ensures.cases.0 c.if-last-ne-END.false)
