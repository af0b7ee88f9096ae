use Rattle.std.proofs.Common.{sym, ◌∙◌}
use Rattle.wc_read.proofs.InitOperatorsLemmas.{is_whole, is_none}
use Rattle.wc_read.proofs.init_operators.is_init.Goals as goal

pub returns-in-Ok : goal.returns-in-Ok
returns-in-Ok c = c.is_empty.ensures ∙ is_whole c.args.slice.now _ _ (rw c.new-reader.ensures at c.in-Ok.ensures)

pub returns-in_default : goal.returns-in_default
returns-in_default c = sym (is_none c.args.slice.now (rw c.new-reader.ensures at (c.in-Err.ensures.0 c.in_default.not-Memory)))
