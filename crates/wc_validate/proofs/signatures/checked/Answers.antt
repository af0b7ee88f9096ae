use Rattle.std.proofs.Common.{refl}
use Rattle.wc_validate.specs.Fault.{fault_kind}
use Rattle.wc_validate.proofs.BuiltinLemmas.{not_so}
use Rattle.wc_validate.proofs.ClassificationLemmas.{type_failed, type_mismatch}
use Rattle.wc_validate.proofs.signatures.checked.Goals as goal

pub returns-then-has_type : goal.returns-then-has_type
returns-then-has_type g c = (refl, c.has_type.ensures.0 c.if-has_type.true)

pub returns-in_err-mismatch : goal.returns-in_err-mismatch
returns-in_err-mismatch g c = type_failed fault_kind _ _ _ _ _ c.from_residual.ensures.1 refl

pub returns : goal.returns
returns g c = type_mismatch (fault_kind _) _ _ c.in_ok-mismatch.ensures (not_so _ _ c.has_type.ensures c.if-has_type.false)
