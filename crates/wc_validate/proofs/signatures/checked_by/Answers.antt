use Rattle.wc_validate.proofs.BuiltinLemmas.{checked_failed, checked_kept, checked_mismatch}
use Rattle.wc_validate.proofs.signatures.checked_by.Goals as goal

pub returns-then-has_its_type : goal.returns-then-has_its_type
returns-then-has_its_type g c = checked_kept g.R.TypeRule.type_of c.args.value c.args.ty.now _ c.has_its_type.ensures c.if-has_its_type.true

pub returns-in_err-type_fault : goal.returns-in_err-type_fault
returns-in_err-type_fault g c = checked_failed g.R.TypeRule.type_of c.args.value c.args.ty.now _ c.from_residual.ensures.1

pub returns : goal.returns
returns g c =
    checked_mismatch g.R.TypeRule.type_of c.args.value c.args.ty.now _ _ c.has_its_type.ensures c.if-has_its_type.false c.in_ok-type_fault.ensures
