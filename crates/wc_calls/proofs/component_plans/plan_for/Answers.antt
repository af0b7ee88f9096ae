use Rattle.wc_calls.specs.Private.OptionTables.{table_options}
use Rattle.wc_calls.proofs.RefusalLemmas.{plan_refusal_answered}
use Rattle.wc_calls.proofs.component_plans.plan_for.Goals as goal

pub returns-in-Err-clause-fault : goal.returns-in-Err-clause-fault
returns-in-Err-clause-fault c = λ is.
    let input = c.args.input.now in
    plan_refusal_answered (table_options input.options) input.encoder c.in-Err.refused c.answer_refused.result c.args.out.now
    c.answer_refused.new.out c.in-Err.ensures.fault c.in-Err.ensures.place (c.answer_refused.ensures.fault is)
