use Rattle.wc_calls.proofs.ValidatedModuleLemmas.{main_refused}
use Rattle.wc_calls.proofs.validated_modules.answer_main.Goals as goal

pub returns-in-Err-clause-fault : goal.returns-in-Err-clause-fault
returns-in-Err-clause-fault c = λ required is.
    main_refused c.args.encoder.now required c.in-Err.refused c.answer_refused.result c.args.out.now c.answer_refused.new.out
    c.in-Err.ensures.fault c.in-Err.ensures.place (c.answer_refused.ensures.fault is)
