use Rattle.wc_calls.specs.Private.OptionTables.{table_options}
use Rattle.wc_calls.specs.Private.PlannedAnswers.{IsPlannedFor}
use Rattle.wc_calls.proofs.ComponentWorldLemmas.{too_long, written}
use Rattle.wc_calls.proofs.RefusalLemmas.{plan_refusal_answered}
use Rattle.wc_calls.proofs.planned_worlds.planned_world_for.Goals as goal

pub returns-in-Ok-clause-done : goal.returns-in-Ok-clause-done
returns-in-Ok-clause-done c = λ is.
    let input = c.args.input.now in
    written (IsPlannedFor (table_options input.options) input.encoder) c.deref.result.now c.deref-in-Ok.result.now c.in-Ok.answer.modules.items
    c.in-Ok.answer.json.items c.put.result.module_length c.put.result.length c.args.out.now c.put.new.out c.in-Ok.ensures.answer c.deref.ensures.value
    c.deref-in-Ok.ensures.value c.put.ensures.module_length c.put.ensures.length (c.put.ensures.done is)

pub returns-in-Ok-clause-too_small : goal.returns-in-Ok-clause-too_small
returns-in-Ok-clause-too_small c = λ is.
    let input = c.args.input.now in
    too_long (IsPlannedFor (table_options input.options) input.encoder) c.deref.result.now c.deref-in-Ok.result.now c.in-Ok.answer.modules.items
    c.in-Ok.answer.json.items c.put.result.module_length c.put.result.length c.args.out.now c.in-Ok.ensures.answer c.deref.ensures.value
    c.deref-in-Ok.ensures.value c.put.ensures.module_length c.put.ensures.length (c.put.ensures.too_small is)

pub returns-in-Err-clause-fault : goal.returns-in-Err-clause-fault
returns-in-Err-clause-fault c = λ is.
    let input = c.args.input.now in
    plan_refusal_answered (table_options input.options) input.encoder c.in-Err.refused c.answer_refused.result c.args.out.now
    c.answer_refused.new.out c.in-Err.ensures.fault c.in-Err.ensures.place (c.answer_refused.ensures.fault is)
