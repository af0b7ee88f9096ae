use Rattle.std.proofs.Common.{inl}
use Rattle.wc_validate.specs.Private.Explain.{IsRefusedForCallbacks}
use Rattle.wc_validate.specs.Refused.{IsMemoryRefusal}
use Rattle.wc_validate.proofs.MissingLemmas.{callbacks_refused}
use Rattle.wc_validate.proofs.RefusedLemmas.{failed_on}
use Rattle.wc_validate.proofs.requirements.check_callbacks.Goals as goal

pub returns-in_ok-callback_refusal-in-Some-clause-refused : goal.returns-in_ok-callback_refusal-in-Some-clause-refused
returns-in_ok-callback_refusal-in-Some-clause-refused c =
    callbacks_refused c.args.names.now.entries c.in-Some.name c.in_ok-callback_refusal-in-Some.field-0 (rw c.in-Some.is at c.in_ok-found.ensures)
    c.in_ok-callback_refusal-in-Some.ensures.fault c.in_ok-callback_refusal-in-Some.ensures.place

pub returns-in_err-found-clause-refused : goal.returns-in_err-found-clause-refused
returns-in_err-found-clause-refused c =
    failed_on IsMemoryRefusal (IsRefusedForCallbacks c.args.names.now.entries) _ (λ x h. inl h) c.from_residual.ensures.1

pub returns-in_err-callback_refusal-in-Some-clause-refused : goal.returns-in_err-callback_refusal-in-Some-clause-refused
returns-in_err-callback_refusal-in-Some-clause-refused c =
    failed_on IsMemoryRefusal (IsRefusedForCallbacks c.args.names.now.entries) _ (λ x h. inl h) c.from_residual-in_err-callback_refusal-in-Some.ensures.1
