use Rattle.std.proofs.Common.{◌∙◌, refl}
use Rattle.wc_calls.proofs.explained.answer_refusal.Goals as goal

pub returns-in-Ok-clause-fault : goal.returns-in-Ok-clause-fault
returns-in-Ok-clause-fault c = λ is. (
  c.args.refused.now.fault,
  refl,
  c.answer_fault.ensures.memory is,
  c.deref.result.now,
  c.deref.ensures.value ∙ c.in-Ok.ensures,
  c.answer_fault.ensures.fault is,
)
