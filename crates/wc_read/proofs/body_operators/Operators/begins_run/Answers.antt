use Rattle.wc_read.specs.Passing.{may_pass}
use Rattle.wc_read.proofs.body_operators.Operators.begins_run.Goals as goal

pub returns : goal.returns
unfolding may_pass
returns c = c.begins_run.ensures
