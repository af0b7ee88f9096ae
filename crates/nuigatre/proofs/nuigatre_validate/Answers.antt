use Rattle.std.proofs.Common.{◌≡◌, ℕ, List, Option, subst}
use Rattle.wc_calls.specs.Answers.{bad_argument, done, failed}
use Rattle.wc_calls.specs.Validation.{IsNoModuleOf, IsValidOf, IsValidationFaultOf}
use Rattle.nuigatre.proofs.nuigatre_validate.Goals as goal

pub returns-clause-done : goal.returns-clause-done
returns-clause-done c =
    subst (λ (o : Option (List ℕ)). c.validate.result.status ≡ done → IsValidOf c.args.message.now c.args.modules.now o) c.optional_name-adapter.ensures c.validate.ensures.done

pub returns-clause-bad_argument : goal.returns-clause-bad_argument
returns-clause-bad_argument c =
    subst (λ (o : Option (List ℕ)). c.validate.result.status ≡ bad_argument → IsNoModuleOf c.args.message.now c.args.modules.now o) c.optional_name-adapter.ensures c.validate.ensures.bad_argument

pub returns-clause-fault : goal.returns-clause-fault
returns-clause-fault c =
    subst (λ (o : Option (List ℕ)). c.validate.result.status ≡ failed → IsValidationFaultOf c.args.message.now c.args.modules.now o c.validate.result c.args.out.now c.validate.new.out) c.optional_name-adapter.ensures c.validate.ensures.fault
