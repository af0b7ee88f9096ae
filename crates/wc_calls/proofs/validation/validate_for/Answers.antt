use Rattle.std.specs.Option.{option_map}
use Rattle.wc_world.specs.World.{IsMainRecord}
use Rattle.wc_calls.proofs.FaultAnswerLemmas.{fault_others}
use Rattle.wc_calls.proofs.HeapLemmas.{record_there}
use Rattle.wc_calls.proofs.ModuleLemmas.{main_refused}
use Rattle.wc_calls.proofs.validation.validate_for.Goals as goal

pub validate_other-requires : goal.validate_other-requires
validate_other-requires c =
    record_there (IsMainRecord c.args.encoder.now) c.in-Ok.module.value c.deref-validated.result.now c.deref-validated.ensures c.in-Ok.ensures.recorded

pub returns-in-Err-clause-fault : goal.returns-in-Err-clause-fault
returns-in-Err-clause-fault c = λ is.
    main_refused c.args.encoder.now (option_map (λ n. n.now) c.args.adapter) c.in-Err.refused c.answer_refused.result c.args.out.now
    c.answer_refused.new.out c.in-Err.ensures.fault c.in-Err.ensures.place (c.answer_refused.ensures.fault is)

pub returns-in-Err-clause-others : goal.returns-in-Err-clause-others
returns-in-Err-clause-others c = fault_others c.answer_refused.result c.answer_refused.ensures.statuses c.answer_refused.ensures.others
