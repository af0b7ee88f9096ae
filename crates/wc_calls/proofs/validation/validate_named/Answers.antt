use Rattle.std.proofs.Common.{Some, inl, subst, ◌≡◌}
use Rattle.wc_validate.specs.Validate.{module_record}
use Rattle.wc_calls.specs.Answers.{bad_argument, done, failed}
use Rattle.wc_calls.specs.FaultAnswers.{IsFaultAnswered}
use Rattle.wc_calls.specs.Private.ModuleAnswers.{IsModuleFault, IsModulePlaceFor}
use Rattle.wc_calls.specs.Validation.{IsModuleValid, IsNoModule}
use Rattle.wc_calls.proofs.validation.validate_named.Goals as goal

pub returns-in-Ok-clause-done : goal.returns-in-Ok-clause-done
returns-in-Ok-clause-done c =
    subst (λ t. c.validate_under.result.status ≡ done → IsModuleValid c.args.main.encoder.now (Some t)) c.in-Ok.ensures.cases.0 c.validate_under.ensures.done

pub returns-in-Ok-clause-bad_argument : goal.returns-in-Ok-clause-bad_argument
returns-in-Ok-clause-bad_argument c =
    subst (λ t. c.validate_under.result.status ≡ bad_argument → IsNoModule c.args.main.encoder.now (Some t)) c.in-Ok.ensures.cases.0
    c.validate_under.ensures.bad_argument

pub returns-in-Ok-clause-fault : goal.returns-in-Ok-clause-fault
returns-in-Ok-clause-fault c =
    subst (λ t. c.validate_under.result.status ≡ failed → IsFaultAnswered (IsModuleFault c.args.main.encoder.now (Some t)) (IsModulePlaceFor c.args.main.encoder.now)
    c.validate_under.result c.args.out.now c.validate_under.new.out) c.in-Ok.ensures.cases.0 c.validate_under.ensures.fault

pub returns-in-Err-clause-bad_argument : goal.returns-in-Err-clause-bad_argument
returns-in-Err-clause-bad_argument c = λ is. ((module_record c.args.main.validated.now, c.requires), inl c.in-Err.ensures.cases.0)
