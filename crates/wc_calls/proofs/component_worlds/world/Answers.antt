use Rattle.wc_calls.specs.ComponentWorlds.{IsWorldAnswer}
use Rattle.wc_calls.specs.Private.EncoderAnswers.{IsAnswerFor}
use Rattle.wc_calls.specs.Private.OptionTables.{table_options}
use Rattle.wc_calls.proofs.ComponentWorldLemmas.{answered_to}
use Rattle.wc_calls.proofs.FaultAnswerLemmas.{message_refused, put_by, too_long_by, world_refused}
use Rattle.wc_calls.proofs.HeapLemmas.{encoder_there, options_there}
use Rattle.wc_calls.proofs.component_worlds.world.Goals as goal

pub returns-in-Ok-clause-done : goal.returns-in-Ok-clause-done
returns-in-Ok-clause-done c = λ is.
    let encodes =
    encoder_there c.args.message.now c.args.modules.now c.in-Ok.input.value c.deref.result.now c.deref.ensures
    c.in-Ok.ensures.encoder in
    let given = options_there c.args.message.now c.in-Ok.input.value c.deref.result.now c.deref.ensures c.in-Ok.ensures.options in
    let r = c.world_for.result in
    let options = table_options c.deref.result.now.options in
    let e = c.deref.result.now.encoder in
    put_by (IsAnswerFor options e r.module_length) (IsWorldAnswer c.args.message.now c.args.modules.now r.module_length) r.length c.args.out.now
    c.world_for.new.out (answered_to c.args.message.now c.args.modules.now options e r.module_length encodes given)
    (c.world_for.ensures.done is)

pub returns-in-Ok-clause-too_small : goal.returns-in-Ok-clause-too_small
returns-in-Ok-clause-too_small c = λ is.
    let encodes =
    encoder_there c.args.message.now c.args.modules.now c.in-Ok.input.value c.deref.result.now c.deref.ensures
    c.in-Ok.ensures.encoder in
    let given = options_there c.args.message.now c.in-Ok.input.value c.deref.result.now c.deref.ensures c.in-Ok.ensures.options in
    let r = c.world_for.result in
    let options = table_options c.deref.result.now.options in
    let e = c.deref.result.now.encoder in
    too_long_by (IsAnswerFor options e r.module_length) (IsWorldAnswer c.args.message.now c.args.modules.now r.module_length) r.length c.args.out.now
    (answered_to c.args.message.now c.args.modules.now options e r.module_length encodes given)
    (c.world_for.ensures.too_small is)

pub returns-in-Ok-clause-fault : goal.returns-in-Ok-clause-fault
returns-in-Ok-clause-fault c = λ is.
    let encodes =
    encoder_there c.args.message.now c.args.modules.now c.in-Ok.input.value c.deref.result.now c.deref.ensures
    c.in-Ok.ensures.encoder in
    world_refused c.args.message.now c.args.modules.now c.deref.result.now.encoder c.world_for.result c.args.out.now c.world_for.new.out
    encodes (c.world_for.ensures.fault is)

pub returns-in-Err-clause-fault : goal.returns-in-Err-clause-fault
returns-in-Err-clause-fault c = λ is.
    message_refused c.args.message.now c.args.modules.now c.in-Err.refused c.answer_refused.result c.args.out.now c.answer_refused.new.out
    c.in-Err.ensures.fault (c.answer_refused.ensures.fault is)
