use Rattle.wc_calls.proofs.renaming.dedupe.Goals as goal

pub returns-clause-fault : goal.returns-clause-fault
returns-clause-fault c = λ is. (
  c.in-Err.refused.fault,
  c.in-Err.ensures.refused,
  c.answer_refused_module.ensures.memory is,
  c.in-Err.refused.place,
  c.in-Err.ensures.place,
  c.answer_refused_module.ensures.fault is,
)
