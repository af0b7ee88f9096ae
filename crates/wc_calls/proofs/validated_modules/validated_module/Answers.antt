use Rattle.std.specs.Option.{option_map}
use Rattle.wc_calls.specs.ValidatedModules.{IsRecordAnswer, IsRecordText}
use Rattle.wc_calls.proofs.FaultAnswerLemmas.{put_by, too_long_by}
use Rattle.wc_calls.proofs.ValidatedModuleLemmas.{no_encoder_refused, record_of, record_refused}
use Rattle.wc_calls.proofs.HeapLemmas.{encoder_there}
use Rattle.wc_calls.proofs.validated_modules.validated_module.Goals as goal

pub returns-in-Ok-clause-done : goal.returns-in-Ok-clause-done
returns-in-Ok-clause-done c = λ is.
    let encodes =
    encoder_there c.args.message.now c.args.modules.now c.in-Ok.input.value c.deref.result.now c.deref.ensures
    c.in-Ok.ensures.encoder in
    let e = c.deref.result.now.encoder in
    let name = option_map (λ n. n.now) c.args.adapter in
    put_by (IsRecordText e name c.args.required.now) (IsRecordAnswer c.args.message.now c.args.modules.now name c.args.required.now)
    c.answer_for.result.length c.args.out.now c.answer_for.new.out
    (record_of c.args.message.now c.args.modules.now name c.args.required.now e encodes) (c.answer_for.ensures.done is)

pub returns-in-Ok-clause-too_small : goal.returns-in-Ok-clause-too_small
returns-in-Ok-clause-too_small c = λ is.
    let encodes =
    encoder_there c.args.message.now c.args.modules.now c.in-Ok.input.value c.deref.result.now c.deref.ensures
    c.in-Ok.ensures.encoder in
    let e = c.deref.result.now.encoder in
    let name = option_map (λ n. n.now) c.args.adapter in
    too_long_by (IsRecordText e name c.args.required.now) (IsRecordAnswer c.args.message.now c.args.modules.now name c.args.required.now)
    c.answer_for.result.length c.args.out.now
    (record_of c.args.message.now c.args.modules.now name c.args.required.now e encodes) (c.answer_for.ensures.too_small is)

pub returns-in-Ok-clause-fault : goal.returns-in-Ok-clause-fault
returns-in-Ok-clause-fault c = λ is.
    let encodes =
    encoder_there c.args.message.now c.args.modules.now c.in-Ok.input.value c.deref.result.now c.deref.ensures
    c.in-Ok.ensures.encoder in
    record_refused c.args.message.now c.args.modules.now (option_map (λ n. n.now) c.args.adapter) c.args.required.now c.deref.result.now.encoder
    c.answer_for.result c.args.out.now c.answer_for.new.out encodes (c.answer_for.ensures.fault is)

pub returns-in-Err-clause-fault : goal.returns-in-Err-clause-fault
returns-in-Err-clause-fault c = λ is.
    no_encoder_refused c.args.message.now c.args.modules.now (option_map (λ n. n.now) c.args.adapter) c.args.required.now c.in-Err.refused
    c.answer_refused.result c.args.out.now c.answer_refused.new.out c.in-Err.ensures.fault (c.answer_refused.ensures.fault is)

pub returns-in-Ok-clause-bad_argument : goal.returns-in-Ok-clause-bad_argument
returns-in-Ok-clause-bad_argument c = λ is. (
  c.deref.result.now.encoder,
  encoder_there c.args.message.now c.args.modules.now c.in-Ok.input.value c.deref.result.now c.deref.ensures c.in-Ok.ensures.encoder,
  c.answer_for.ensures.bad_argument is,
)
