use Rattle.std.proofs.Common.{option_copied}
use Rattle.wc_validate.specs.Validate.{HasNoCause, IsRecordOf, IsValidateCause, main_input, module_record}
use Rattle.wc_validate.specs.declared.validate.ValidatedModule.{ValidatedModule}
use Rattle.wc_validate.proofs.RefusedLemmas.{err_without, ok_without, on_without}
use Rattle.wc_validate.proofs.validate.validate_module.Goals as goal

pub returns-clause-recorded : goal.returns-clause-recorded
returns-clause-recorded c =
    ok_without (λ (v : ValidatedModule). IsRecordOf (main_input c.args.encoder.now (option_copied c.args.import_map)) c.args.bytes.now (module_record v))
    c.validate_module_explained.result c.without_place.result c.without_place.ensures c.validate_module_explained.ensures.recorded

pub returns-clause-fault : goal.returns-clause-fault
returns-clause-fault c =
    err_without (IsValidateCause (main_input c.args.encoder.now (option_copied c.args.import_map)) c.args.bytes.now) c.validate_module_explained.result
    c.without_place.result c.without_place.ensures c.validate_module_explained.ensures.fault

pub returns-clause-no_cause : goal.returns-clause-no_cause
returns-clause-no_cause c =
    on_without (HasNoCause (main_input c.args.encoder.now (option_copied c.args.import_map)) c.args.bytes.now) c.validate_module_explained.result
    c.without_place.result c.without_place.ensures c.validate_module_explained.ensures.no_cause
