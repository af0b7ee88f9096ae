use Rattle.wc_plan.proofs.LoweredLemmas.{lowered_are_nameable}
use Rattle.wc_plan.proofs.laws.worlds_nameable.Goals as goal

pub returns : goal.returns
returns c = λ options w made. lowered_are_nameable w (c.recorded_functions_lowered.ensures options w made)
