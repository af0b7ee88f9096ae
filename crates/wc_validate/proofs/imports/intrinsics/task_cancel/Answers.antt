use Rattle.std.proofs.Common.{refl}
use Rattle.wc_validate.proofs.ClassificationLemmas.{classified_import, classified_nothing}
use Rattle.wc_validate.specs.Fault.{fault_kind}
use Rattle.wc_validate.proofs.BuiltinLemmas.{not_so}
use Rattle.wc_validate.specs.Classifications.{of_imports}
use Rattle.wc_validate.proofs.imports.intrinsics.task_cancel.Goals as goal

pub returns-then-task_cancel : goal.returns-then-task_cancel
returns-then-task_cancel g c = λ l.
    classified_import fault_kind _ _ _ _ _ c.checked.ensures (c.task_cancel.ensures.0 c.if-task_cancel.true, refl)

pub returns : goal.returns
returns g c = λ l. classified_nothing of_imports fault_kind _ _ (λ m h. not_so _ _ c.task_cancel.ensures c.if-task_cancel.false h.0)
