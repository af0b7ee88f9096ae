use Rattle.std.proofs.Common.{List, Some, inl, subst, ℕ, ◌≡◌}
use Rattle.wc_calls.specs.Answers.{IsPut, IsTooLong, bad_argument, done, failed, too_small}
use Rattle.wc_calls.specs.FaultAnswers.{IsFaultAnswered}
use Rattle.wc_calls.specs.ValidatedModules.{IsNoneAsked, IsRecordText}
use Rattle.wc_calls.specs.Private.RecordAnswers.{IsRecordFault, IsRecordPlaceFor}
use Rattle.wc_calls.proofs.validated_modules.answer_named.Goals as goal

pub returns-in-Ok-clause-done : goal.returns-in-Ok-clause-done
returns-in-Ok-clause-done c =
    subst (λ (t : List ℕ). c.answer_under.result.status ≡ done → IsPut (IsRecordText c.args.encoder.now (Some t) c.args.required.now)
    c.answer_under.result.length c.args.out.now c.answer_under.new.out) c.in-Ok.ensures.cases.0 c.answer_under.ensures.done

pub returns-in-Ok-clause-too_small : goal.returns-in-Ok-clause-too_small
returns-in-Ok-clause-too_small c =
    subst (λ (t : List ℕ). c.answer_under.result.status ≡ too_small → IsTooLong (IsRecordText c.args.encoder.now (Some t) c.args.required.now)
    c.answer_under.result.length c.args.out.now) c.in-Ok.ensures.cases.0 c.answer_under.ensures.too_small

pub returns-in-Ok-clause-bad_argument : goal.returns-in-Ok-clause-bad_argument
returns-in-Ok-clause-bad_argument c =
    subst (λ (t : List ℕ). c.answer_under.result.status ≡ bad_argument → IsNoneAsked c.args.encoder.now (Some t) c.args.required.now)
    c.in-Ok.ensures.cases.0 c.answer_under.ensures.bad_argument

pub returns-in-Ok-clause-fault : goal.returns-in-Ok-clause-fault
returns-in-Ok-clause-fault c =
    subst (λ (t : List ℕ). c.answer_under.result.status ≡ failed → IsFaultAnswered (IsRecordFault c.args.encoder.now (Some t) c.args.required.now)
    (IsRecordPlaceFor c.args.encoder.now c.args.required.now) c.answer_under.result c.args.out.now c.answer_under.new.out)
    c.in-Ok.ensures.cases.0 c.answer_under.ensures.fault

pub returns-in-Err-clause-bad_argument : goal.returns-in-Err-clause-bad_argument
returns-in-Err-clause-bad_argument c = λ is. inl c.in-Err.ensures.cases.0
