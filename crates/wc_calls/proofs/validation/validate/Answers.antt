use Rattle.std.specs.Option.{option_map}
use Rattle.wc_calls.proofs.FaultAnswerLemmas.{fault_others}
use Rattle.wc_calls.proofs.ModuleLemmas.{no_encoder_refused, validation_refused}
use Rattle.wc_calls.proofs.HeapLemmas.{encoder_there}
use Rattle.wc_calls.proofs.validation.validate.Goals as goal

pub returns-in-Ok-clause-fault : goal.returns-in-Ok-clause-fault
returns-in-Ok-clause-fault c = λ is.
    let encodes =
    encoder_there c.args.message.now c.args.modules.now c.in-Ok.input.value c.deref.result.now c.deref.ensures
    c.in-Ok.ensures.encoder in
    validation_refused c.args.message.now c.args.modules.now (option_map (λ n. n.now) c.args.adapter) c.deref.result.now.encoder c.validate_for.result c.args.out.now
    c.validate_for.new.out encodes (c.validate_for.ensures.fault is)

pub returns-in-Err-clause-fault : goal.returns-in-Err-clause-fault
returns-in-Err-clause-fault c = λ is.
    no_encoder_refused c.args.message.now c.args.modules.now (option_map (λ n. n.now) c.args.adapter) c.in-Err.refused c.answer_refused.result
    c.args.out.now c.answer_refused.new.out c.in-Err.ensures.fault (c.answer_refused.ensures.fault is)

pub returns-in-Err-clause-others : goal.returns-in-Err-clause-others
returns-in-Err-clause-others c = fault_others c.answer_refused.result c.answer_refused.ensures.statuses c.answer_refused.ensures.others

pub returns-in-Ok-clause-done : goal.returns-in-Ok-clause-done
returns-in-Ok-clause-done c = λ is. (
  c.deref.result.now.encoder,
  encoder_there c.args.message.now c.args.modules.now c.in-Ok.input.value c.deref.result.now c.deref.ensures c.in-Ok.ensures.encoder,
  c.validate_for.ensures.done is,
)

pub returns-in-Ok-clause-bad_argument : goal.returns-in-Ok-clause-bad_argument
returns-in-Ok-clause-bad_argument c = λ is. (
  c.deref.result.now.encoder,
  encoder_there c.args.message.now c.args.modules.now c.in-Ok.input.value c.deref.result.now c.deref.ensures c.in-Ok.ensures.encoder,
  c.validate_for.ensures.bad_argument is,
)
