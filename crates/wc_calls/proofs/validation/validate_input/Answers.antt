use Rattle.std.proofs.Common.{inr}
use Rattle.wc_validate.specs.Validate.{module_record}
use Rattle.wc_calls.proofs.FaultAnswerLemmas.{fault_others}
use Rattle.wc_calls.proofs.ModuleLemmas.{input_answered}
use Rattle.wc_calls.proofs.validation.validate_input.Goals as goal

pub returns-in-Ok-clause-done : goal.returns-in-Ok-clause-done
returns-in-Ok-clause-done c = λ is. (module_record c.in-Ok._record.value, c.in-Ok.ensures.recorded)

pub returns-in-Err-clause-fault : goal.returns-in-Err-clause-fault
returns-in-Err-clause-fault c = λ is.
    input_answered c.args.input c.in-Err.refused c.answer_refused.result c.args.out.now c.answer_refused.new.out c.in-Err.ensures.fault
    (c.answer_refused.ensures.fault is)

pub returns-in-Err-clause-others : goal.returns-in-Err-clause-others
returns-in-Err-clause-others c = fault_others c.answer_refused.result c.answer_refused.ensures.statuses c.answer_refused.ensures.others

pub returns-in-Err-clause-statuses : goal.returns-in-Err-clause-statuses
returns-in-Err-clause-statuses c = inr c.answer_refused.ensures.statuses
