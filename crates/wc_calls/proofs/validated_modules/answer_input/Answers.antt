use Rattle.wc_calls.proofs.ModuleLemmas.{input_answered}
use Rattle.wc_calls.proofs.validated_modules.answer_input.Goals as goal

pub returns-in-Err-clause-fault : goal.returns-in-Err-clause-fault
returns-in-Err-clause-fault c = λ is.
    input_answered c.args.input c.in-Err.refused c.answer_refused.result c.args.out.now c.answer_refused.new.out c.in-Err.ensures.fault
    (c.answer_refused.ensures.fault is)
