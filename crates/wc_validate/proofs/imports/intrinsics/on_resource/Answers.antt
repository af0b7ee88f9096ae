use Rattle.std.proofs.Common.{sym, ◌∙◌}
use Rattle.wc_validate.proofs.ClassificationLemmas.{classified_import, classified_nothing}
use Rattle.wc_validate.specs.Fault.{fault_kind}
use Rattle.wc_validate.specs.Private.Imports.Intrinsics.{operation_of}
use Rattle.wc_validate.proofs.IntrinsicLemmas.{not_found, same_meaning, with_result, without_result}
use Rattle.wc_validate.proofs.StageLemmas.{failed}
use Rattle.wc_validate.specs.Classifications.{of_imports}
use Rattle.wc_validate.proofs.imports.intrinsics.on_resource.Goals as goal

pub returns-in_err-id : goal.returns-in_err-id
returns-in_err-id c = failed _ _ _ c.from_residual.ensures.1

pub returns-in_default : goal.returns-in_default
returns-in_default c = classified_nothing of_imports fault_kind _ _ (λ m h. not_found h.0 (rw c.in_default.is at c.in_ok-id.ensures) h.1)

pub returns-in_err-import : goal.returns-in_err-import
returns-in_err-import c = failed _ _ _ c.from_residual-in_err-import.ensures.1

pub returns-then-has_result : goal.returns-then-has_result
returns-then-has_result c =
    classified_import fault_kind _ _ _ _ _ c.checked.ensures (
      c.in-Some.id.0,
      sym (rw c.in-Some.is at c.in_ok-id.ensures),
      same_meaning _ _ _ _ c.in_ok-import.ensures (with_result c.args.context.now.imported (operation_of c.args.operation)
          (sym c.has_result.ensures ∙ c.if-has_result.true)),
    )

pub returns-else-has_result : goal.returns-else-has_result
returns-else-has_result c =
    classified_import fault_kind _ _ _ _ _ c.checked-else-has_result.ensures (
      c.in-Some.id.0,
      sym (rw c.in-Some.is at c.in_ok-id.ensures),
      same_meaning _ _ _ _ c.in_ok-import.ensures (without_result c.args.context.now.imported (operation_of c.args.operation)
          (sym c.has_result.ensures ∙ c.if-has_result.false)),
    )
