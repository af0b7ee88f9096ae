use Rattle.std.proofs.Common.{◌∙◌, ap, inl, inr, map, subst}
use Rattle.std.proofs.lemmas.Result.{err_from_is_err_and}
use Rattle.wc_selection.specs.Keys.{named_key}
use Rattle.wcplan_inputs.specs.Arguments.{command_view}
use Rattle.wcplan_inputs.specs.Inputs.{IsListedCause}
use Rattle.wcplan_inputs.proofs.inputs.checked_keys.Goals as goal

pub returns-in_err-keys-clause-fault : goal.returns-in_err-keys-clause-fault
returns-in_err-keys-clause-fault c =
    let p = err_from_is_err_and c.from_residual.result c.from_residual.ensures.1 in
    rw (p.1, p.2) (inl tt)

pub returns-in_err-check_listed-clause-fault : goal.returns-in_err-check_listed-clause-fault
returns-in_err-check_listed-clause-fault c =
    let keyed = ap (map named_key) c.deref.ensures.value ∙ c.in_ok-keys.ensures.keys in
    let f = c.in_err-check_listed.field-0.0 in
    let p = err_from_is_err_and c.from_residual-in_err-check_listed.result c.from_residual-in_err-check_listed.ensures.1 in
    rw (p.1, p.2) (inl (subst (λ keys. IsListedCause (command_view c.args.command.now) keys f) keyed c.in_err-check_listed.ensures.fault))

pub returns-in_err-check_asked-clause-fault : goal.returns-in_err-check_asked-clause-fault
returns-in_err-check_asked-clause-fault c =
    let p = err_from_is_err_and c.from_residual-in_err-check_asked.result c.from_residual-in_err-check_asked.ensures.1 in
    rw (p.1, p.2) (inr c.in_err-check_asked.ensures.fault)
