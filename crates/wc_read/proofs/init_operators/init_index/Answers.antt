use Rattle.wc_read.proofs.InitOperatorsLemmas.{index_read}
use Rattle.wc_read.proofs.init_operators.init_index.Goals as goal

pub returns : goal.returns
returns c = index_read c.args.slice.now _ _ _ _ c.in_ok-first.ensures.cases.0 c.in_ok-space.ensures (rw (c.new-reader.ensures, c.is_end_alone.ensures c.if-not-is_end_alone.false) at c.in-Ok.ensures)
