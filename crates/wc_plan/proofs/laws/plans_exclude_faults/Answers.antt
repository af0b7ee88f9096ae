use Rattle.wc_plan.proofs.FaultLemmas.{no_first_fault}
use Rattle.wc_plan.proofs.laws.plans_exclude_faults.Goals as goal

pub returns : goal.returns
returns c = no_first_fault
