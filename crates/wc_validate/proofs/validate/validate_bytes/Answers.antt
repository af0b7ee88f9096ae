use Rattle.std.proofs.Common.{inr, refl, subst, sym}
use Rattle.wc_read.specs.Modules.{module_value}
use Rattle.wc_validate.specs.Explain.{IsModulePlace, IsPlace}
use Rattle.wc_validate.specs.Private.ValidationInputs.{validation_input_of}
use Rattle.wc_validate.specs.Validate.{IsValidateCause}
use Rattle.wc_validate.proofs.ExclusionLemmas.{answered}
use Rattle.wc_validate.proofs.RefusedLemmas.{read_at, refusals_as}
use Rattle.wc_validate.proofs.ValidateLemmas.{cause_of, read_cause, record_of, typed_imports}
use Rattle.wc_validate.proofs.validate.validate_bytes.Goals as goal

pub returns-in-Err-clause-fault : goal.returns-in-Err-clause-fault
returns-in-Err-clause-fault c =
    let j = validation_input_of c.args.validation_input in
    subst (IsValidateCause j c.args.bytes.now) (sym c.read_refusal.ensures.0)
    (read_cause j c.args.bytes.now _ c.in-Err.ensures.refused c.in-Err.ensures.component)

pub returns-in-Err-clause-place : goal.returns-in-Err-clause-place
returns-in-Err-clause-place c =
    let j = validation_input_of c.args.validation_input in
    read_at j c.args.bytes.now c.in-Err.refused c.read_refusal.result c.read_refusal.ensures
    (read_cause j c.args.bytes.now _ c.in-Err.ensures.refused c.in-Err.ensures.component) c.in-Err.ensures.place

pub validate_read-requires-clause-typed : goal.validate_read-requires-clause-typed
validate_read-requires-clause-typed c = typed_imports c.args.bytes.now c.in-Ok.module c.in-Ok.ensures.found

pub validate_read-requires-clause-valid : goal.validate_read-requires-clause-valid
validate_read-requires-clause-valid c = c.in-Ok.ensures.found.has_sections.valid

pub returns-in-Ok-clause-recorded : goal.returns-in-Ok-clause-recorded
returns-in-Ok-clause-recorded c =
    record_of c.validate_read.result (validation_input_of c.args.validation_input) c.args.bytes.now (module_value c.in-Ok.module)
    c.in-Ok.ensures.found c.validate_read.ensures.imports c.validate_read.ensures.exports

pub returns-in-Ok-clause-fault : goal.returns-in-Ok-clause-fault
returns-in-Ok-clause-fault c =
    cause_of c.validate_read.result (validation_input_of c.args.validation_input) c.args.bytes.now (module_value c.in-Ok.module)
    c.in-Ok.ensures.found c.validate_read.ensures.fault

pub returns-in-Ok-clause-place : goal.returns-in-Ok-clause-place
returns-in-Ok-clause-place c =
    let j = validation_input_of c.args.validation_input in
    refusals_as (IsModulePlace j (module_value c.in-Ok.module)) (IsPlace j c.args.bytes.now) c.validate_read.result
    (λ f p h. inr (module_value c.in-Ok.module, c.in-Ok.ensures.found, h)) c.validate_read.ensures.place

pub returns-in-Ok-clause-no_cause : goal.returns-in-Ok-clause-no_cause
returns-in-Ok-clause-no_cause c =
    answered c.args.validation_input.encoder.now c.records_exclude_faults.ensures c.validate_read.result (validation_input_of c.args.validation_input)
    c.args.bytes.now refl
    (returns-in-Ok-clause-recorded c)
