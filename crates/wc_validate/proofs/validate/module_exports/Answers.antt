use Rattle.wc_read.specs.Modules.{module_value}
use Rattle.wc_validate.specs.Explain.{IsModulePlace}
use Rattle.wc_validate.specs.Private.ValidationInputs.{validation_input_of}
use Rattle.wc_validate.specs.Refused.{IsMemoryRefusal, IsRefusedAt, RefusedModule}
use Rattle.wc_validate.specs.Validate.{IsCauseOfExports}
use Rattle.wc_validate.proofs.ExplainLemmas.{placed_exports}
use Rattle.wc_validate.proofs.RefusedLemmas.{failed_on, memory_at, refusals_as}
use Rattle.wc_validate.proofs.ValidateLemmas.{memory_of_exports}
use Rattle.wc_validate.proofs.validate.module_exports.Goals as goal

pub returns-in_err-context-clause-fault : goal.returns-in_err-context-clause-fault
returns-in_err-context-clause-fault c =
    failed_on IsMemoryRefusal (λ (x : RefusedModule). IsCauseOfExports (validation_input_of c.args.validation_input) (module_value c.args.module.now) x.fault) _
    (memory_of_exports (validation_input_of c.args.validation_input) (module_value c.args.module.now)) c.from_residual.ensures.1

pub returns-in_err-context-clause-place : goal.returns-in_err-context-clause-place
returns-in_err-context-clause-place c = λ imports.
    let P = IsModulePlace (validation_input_of c.args.validation_input) (module_value c.args.module.now) in
    failed_on IsMemoryRefusal (IsRefusedAt P) _ (memory_at P) c.from_residual.ensures.1

pub returns-clause-recorded : goal.returns-clause-recorded
returns-clause-recorded c = c.exports_by.ensures.recorded c.args.validation_input.encoder.now c.in_ok-context.ensures.name_scope

pub returns-clause-fault : goal.returns-clause-fault
returns-clause-fault c = c.exports_by.ensures.fault c.args.validation_input.encoder.now c.in_ok-context.ensures.name_scope

pub returns-clause-place : goal.returns-clause-place
returns-clause-place c = λ imports.
    refusals_as _ (IsModulePlace (validation_input_of c.args.validation_input) (module_value c.args.module.now)) c.exports_by.result
    (placed_exports c.args.validation_input c.args.module.now c.in_ok-context.context imports c.in_ok-context.ensures.name_scope
    c.in_ok-context.ensures.keys) c.exports_by.ensures.place
