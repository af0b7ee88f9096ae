use Rattle.std.proofs.Common.{IfErr, IfOk, OnOk, subst}
use Rattle.wc_validate.specs.Explain.{IsPlace}
use Rattle.wc_validate.specs.Refused.{IsRefusedAt, RefusedModule}
use Rattle.wc_validate.specs.Validate.{HasNoCause, IsRecordOf, IsValidateCause, module_record}
use Rattle.wc_validate.specs.declared.validate.ValidatedModule.{ValidatedModule}
use Rattle.wc_validate.proofs.WorldInterfaceLemmas.{none_there}
use Rattle.wc_validate.proofs.validate.validate_adapter_module_explained.Goals as goal

pub validate_bytes-requires : goal.validate_bytes-requires
validate_bytes-requires c = none_there c.adapter_validation_input-validation_input.result.encoder.now c.adapter_validation_input-validation_input.result.interfaces c.adapter_validation_input-validation_input.ensures.interfaces

pub returns-clause-recorded : goal.returns-clause-recorded
returns-clause-recorded c =
    subst (λ j. IfOk c.validate_bytes.result (λ (v : ValidatedModule). IsRecordOf j c.args.bytes.now (module_record v))) c.adapter_validation_input-validation_input.ensures.input
    c.validate_bytes.ensures.recorded

pub returns-clause-fault : goal.returns-clause-fault
returns-clause-fault c =
    subst (λ j. IfErr c.validate_bytes.result (λ (x : RefusedModule). IsValidateCause j c.args.bytes.now x.fault)) c.adapter_validation_input-validation_input.ensures.input
    c.validate_bytes.ensures.fault

pub returns-clause-place : goal.returns-clause-place
returns-clause-place c =
    subst (λ j. IfErr c.validate_bytes.result (IsRefusedAt (IsPlace j c.args.bytes.now))) c.adapter_validation_input-validation_input.ensures.input
    c.validate_bytes.ensures.place

pub returns-clause-no_cause : goal.returns-clause-no_cause
returns-clause-no_cause c =
    subst (λ j. OnOk c.validate_bytes.result (HasNoCause j c.args.bytes.now)) c.adapter_validation_input-validation_input.ensures.input c.validate_bytes.ensures.no_cause
