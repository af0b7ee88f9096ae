use Rattle.wc_calls.specs.ComponentPlans.{IsPlanAnswer}
use Rattle.wc_calls.specs.Private.EncoderAnswers.{IsPlanFor}
use Rattle.wc_calls.specs.Private.OptionTables.{table_options}
use Rattle.wc_calls.proofs.ComponentPlanLemmas.{planned_to}
use Rattle.wc_calls.proofs.FaultAnswerLemmas.{message_refused, plan_refused, put_by, too_long_by}
use Rattle.wc_calls.proofs.HeapLemmas.{encoder_there, options_there}
use Rattle.wc_calls.proofs.component_plans.plan.Goals as goal

pub returns-in-Ok-clause-done : goal.returns-in-Ok-clause-done
returns-in-Ok-clause-done c = λ is.
    let encodes =
    encoder_there c.args.message.now c.args.modules.now c.in-Ok.input.value c.deref.result.now c.deref.ensures
    c.in-Ok.ensures.encoder in
    let given = options_there c.args.message.now c.in-Ok.input.value c.deref.result.now c.deref.ensures c.in-Ok.ensures.options in
    let options = table_options c.deref.result.now.options in
    let e = c.deref.result.now.encoder in
    put_by (IsPlanFor options e) (IsPlanAnswer c.args.message.now c.args.modules.now) c.plan_for.result.length c.args.out.now c.plan_for.new.out
    (planned_to c.args.message.now c.args.modules.now options e encodes given) (c.plan_for.ensures.done is)

pub returns-in-Ok-clause-too_small : goal.returns-in-Ok-clause-too_small
returns-in-Ok-clause-too_small c = λ is.
    let encodes =
    encoder_there c.args.message.now c.args.modules.now c.in-Ok.input.value c.deref.result.now c.deref.ensures
    c.in-Ok.ensures.encoder in
    let given = options_there c.args.message.now c.in-Ok.input.value c.deref.result.now c.deref.ensures c.in-Ok.ensures.options in
    let options = table_options c.deref.result.now.options in
    let e = c.deref.result.now.encoder in
    too_long_by (IsPlanFor options e) (IsPlanAnswer c.args.message.now c.args.modules.now) c.plan_for.result.length c.args.out.now
    (planned_to c.args.message.now c.args.modules.now options e encodes given) (c.plan_for.ensures.too_small is)

pub returns-in-Ok-clause-fault : goal.returns-in-Ok-clause-fault
returns-in-Ok-clause-fault c = λ is.
    let encodes =
    encoder_there c.args.message.now c.args.modules.now c.in-Ok.input.value c.deref.result.now c.deref.ensures
    c.in-Ok.ensures.encoder in
    let given = options_there c.args.message.now c.in-Ok.input.value c.deref.result.now c.deref.ensures c.in-Ok.ensures.options in
    plan_refused c.args.message.now c.args.modules.now (table_options c.deref.result.now.options) c.deref.result.now.encoder c.plan_for.result c.args.out.now
    c.plan_for.new.out encodes given (c.plan_for.ensures.fault is)

pub returns-in-Err-clause-fault : goal.returns-in-Err-clause-fault
returns-in-Err-clause-fault c = λ is.
    message_refused c.args.message.now c.args.modules.now c.in-Err.refused c.answer_refused.result c.args.out.now c.answer_refused.new.out
    c.in-Err.ensures.fault (c.answer_refused.ensures.fault is)
