use Rattle.std.specs.Prelude.{Some}
use Rattle.wc_calls.specs.ValidatedModules.{IsRecordText}
use Rattle.wc_calls.specs.Private.RecordAnswers.{IsInputText}
use Rattle.wc_calls.proofs.FaultAnswerLemmas.{put_by, too_long_by}
use Rattle.wc_calls.proofs.ValidatedModuleLemmas.{asked_refused, record_asked}
use Rattle.wc_calls.proofs.validated_modules.answer_with.Goals as goal

pub returns-clause-done : goal.returns-clause-done
returns-clause-done c = λ is.
    let g = c.args.input in
    put_by (IsInputText g) (IsRecordText g.encoder.now (Some g.name.now) c.args.required.now) c.answer_input.result.length c.args.out.now
    c.answer_input.new.out (record_asked g c.args.required.now c.requires.there c.requires.required) (c.answer_input.ensures.done is)

pub returns-clause-too_small : goal.returns-clause-too_small
returns-clause-too_small c = λ is.
    let g = c.args.input in
    too_long_by (IsInputText g) (IsRecordText g.encoder.now (Some g.name.now) c.args.required.now) c.answer_input.result.length c.args.out.now
    (record_asked g c.args.required.now c.requires.there c.requires.required) (c.answer_input.ensures.too_small is)

pub returns-clause-fault : goal.returns-clause-fault
returns-clause-fault c = λ is.
    asked_refused c.args.input c.args.required.now c.requires.there c.requires.required c.answer_input.result c.args.out.now
    c.answer_input.new.out (c.answer_input.ensures.fault is)
