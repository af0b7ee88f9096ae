use Rattle.std.proofs.Common.{inl, inr}
use Rattle.wc_read.specs.Modules.{module_value}
use Rattle.wc_validate.specs.Explain.{IsModulePlace, IsPlaceOfImport}
use Rattle.wc_validate.specs.Private.ValidationInputs.{validation_input_of}
use Rattle.wc_validate.specs.Refused.{IsRefusedAt, RefusedModule}
use Rattle.wc_validate.specs.Validate.{IsModuleCause}
use Rattle.wc_validate.proofs.RefusedLemmas.{passed_on, refused_as}
use Rattle.wc_validate.proofs.validate.validate_read.Goals as goal

pub returns-in_err-imports-clause-fault : goal.returns-in_err-imports-clause-fault
returns-in_err-imports-clause-fault c =
    passed_on (λ (x : RefusedModule). IsModuleCause (validation_input_of c.args.validation_input) (module_value c.args.module.now) x.fault) _ _
    c.from_residual.ensures.1 (inl c.in_err-imports.ensures.fault)

pub returns-in_err-imports-clause-place : goal.returns-in_err-imports-clause-place
returns-in_err-imports-clause-place c =
    let P = IsPlaceOfImport (validation_input_of c.args.validation_input) (module_value c.args.module.now) in
    let Q = IsModulePlace (validation_input_of c.args.validation_input) (module_value c.args.module.now) in
    passed_on (IsRefusedAt Q) _ _ c.from_residual.ensures.1 (refused_as P Q _ (λ f p h. inl h) c.in_err-imports.ensures.place)

pub returns-in_err-exports-clause-fault : goal.returns-in_err-exports-clause-fault
returns-in_err-exports-clause-fault c =
    passed_on (λ (x : RefusedModule). IsModuleCause (validation_input_of c.args.validation_input) (module_value c.args.module.now) x.fault) _ _
    c.from_residual-in_err-exports.ensures.1
    (inr (c.in_ok-imports.imports, c.in_ok-imports.ensures.recorded, c.in_err-exports.ensures.fault))

pub returns-in_err-exports-clause-place : goal.returns-in_err-exports-clause-place
returns-in_err-exports-clause-place c =
    passed_on (IsRefusedAt (IsModulePlace (validation_input_of c.args.validation_input) (module_value c.args.module.now))) _ _
    c.from_residual-in_err-exports.ensures.1
    (c.in_err-exports.ensures.place (c.in_ok-imports.imports, c.in_ok-imports.ensures.recorded))
