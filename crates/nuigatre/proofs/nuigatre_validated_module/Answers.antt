use Rattle.std.proofs.Common.{◌≡◌, ℕ, List, Option, subst}
use Rattle.wc_calls.specs.Answers.{IsPut, IsTooLong, bad_argument, done, failed, too_small}
use Rattle.wc_calls.specs.ValidatedModules.{IsNoneAskedOf, IsRecordAnswer, IsRecordFaultOf}
use Rattle.nuigatre.proofs.nuigatre_validated_module.Goals as goal

pub returns-clause-done : goal.returns-clause-done
returns-clause-done c =
    subst (λ (o : Option (List ℕ)). c.validated_module.result.status ≡ done → IsPut (IsRecordAnswer c.args.message.now c.args.modules.now o c.args.required.now) c.validated_module.result.length c.args.out.now c.validated_module.new.out) c.optional_name-adapter.ensures c.validated_module.ensures.done

pub returns-clause-too_small : goal.returns-clause-too_small
returns-clause-too_small c =
    subst (λ (o : Option (List ℕ)). c.validated_module.result.status ≡ too_small → IsTooLong (IsRecordAnswer c.args.message.now c.args.modules.now o c.args.required.now) c.validated_module.result.length c.args.out.now) c.optional_name-adapter.ensures c.validated_module.ensures.too_small

pub returns-clause-bad_argument : goal.returns-clause-bad_argument
returns-clause-bad_argument c =
    subst (λ (o : Option (List ℕ)). c.validated_module.result.status ≡ bad_argument → IsNoneAskedOf c.args.message.now c.args.modules.now o c.args.required.now) c.optional_name-adapter.ensures c.validated_module.ensures.bad_argument

pub returns-clause-fault : goal.returns-clause-fault
returns-clause-fault c =
    subst (λ (o : Option (List ℕ)). c.validated_module.result.status ≡ failed → IsRecordFaultOf c.args.message.now c.args.modules.now o c.args.required.now c.validated_module.result c.args.out.now c.validated_module.new.out) c.optional_name-adapter.ensures c.validated_module.ensures.fault
