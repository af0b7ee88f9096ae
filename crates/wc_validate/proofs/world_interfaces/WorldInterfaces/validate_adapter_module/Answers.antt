use Rattle.wc_validate.specs.Validate.{HasNoCause, IsRecordOf, IsValidateCause, module_record}
use Rattle.wc_validate.specs.declared.validate.ValidatedModule.{ValidatedModule}
use Rattle.wc_validate.proofs.RefusedLemmas.{err_without, ok_without, on_without}
use Rattle.wc_validate.proofs.world_interfaces.WorldInterfaces.validate_adapter_module.Goals as goal

pub returns-clause-recorded : goal.returns-clause-recorded
returns-clause-recorded c =
    ok_without (λ (v : ValidatedModule). IsRecordOf _ c.args.bytes.now (module_record v)) c.validate_adapter_module_explained.result
    c.without_place.result c.without_place.ensures c.validate_adapter_module_explained.ensures.recorded

pub returns-clause-fault : goal.returns-clause-fault
returns-clause-fault c =
    err_without (IsValidateCause _ c.args.bytes.now) c.validate_adapter_module_explained.result c.without_place.result c.without_place.ensures
    c.validate_adapter_module_explained.ensures.fault

pub returns-clause-no_cause : goal.returns-clause-no_cause
returns-clause-no_cause c =
    on_without (HasNoCause _ c.args.bytes.now) c.validate_adapter_module_explained.result c.without_place.result c.without_place.ensures
    c.validate_adapter_module_explained.ensures.no_cause
