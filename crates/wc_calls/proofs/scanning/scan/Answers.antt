use Rattle.wc_calls.proofs.ScanningLemmas.{not_memory}
use Rattle.wc_calls.proofs.scanning.scan.Goals as goal

pub returns-in-Err-clause-fault : goal.returns-in-Err-clause-fault
returns-in-Err-clause-fault c = λ is. (
  c.in-Err.refused.fault,
  (c.in-Err.ensures.refused (not_memory c.in-Err.refused.fault (c.answer_refused_module.ensures.memory is)), c.in-Err.ensures.component),
  c.answer_refused_module.ensures.memory is,
  c.in-Err.refused.place,
  c.in-Err.ensures.place,
  c.answer_refused_module.ensures.fault is,
)
