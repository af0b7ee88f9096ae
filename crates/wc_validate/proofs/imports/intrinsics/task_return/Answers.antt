use Rattle.std.proofs.Common.{refl, sym}
use Rattle.wc_resolve.specs.Views.{function_view}
use Rattle.wc_names.specs.Meanings.{no_such_export}
use Rattle.wc_validate.proofs.ClassificationLemmas.{classified_nothing, classified_refused, classified_unchecked}
use Rattle.wc_validate.specs.declared.name_fault.NameFault.TheVariants.{NoSuchExport}
use Rattle.wc_validate.specs.Fault.{fault_kind}
use Rattle.wc_validate.specs.Private.Imports.Lookups.{lookup_scope}
use Rattle.wc_validate.proofs.IntrinsicLemmas.{no_task, is_task, is_no_task, same_task}
use Rattle.wc_validate.proofs.StageLemmas.{failed}
use Rattle.wc_validate.specs.Classifications.{of_imports}
use Rattle.wc_validate.proofs.imports.intrinsics.task_return.Goals as goal

pub returns-in_default : goal.returns-in_default
returns-in_default g c =
    classified_nothing of_imports fault_kind _ _
    (no_task (g.N.NameMangling.scheme c.args.scheme.now) (lookup_scope c.args.context.now) c.args.name.now
    c.in_default.ensures)

pub returns-in_err-function : goal.returns-in_err-function
returns-in_err-function g c = failed _ _ _ c.from_residual.ensures.1

pub returns-in_default-2 : goal.returns-in_default-2
returns-in_default-2 g c =
    classified_refused of_imports fault_kind _ _ NoSuchExport no_such_export refl
    (is_no_task (g.N.NameMangling.scheme c.args.scheme.now) (lookup_scope c.args.context.now) c.args.name.now
    c.in-Some.function_name.now c.in-Some.ensures (rw c.in_default-2.is at c.in_ok-function.ensures))

pub returns-in_err-key : goal.returns-in_err-key
returns-in_err-key g c = failed _ _ _ c.from_residual-in_err-key.ensures.1

pub returns-in_err-own : goal.returns-in_err-own
returns-in_err-own g c = failed _ _ _ c.from_residual-in_err-own.ensures.1

pub returns : goal.returns
returns g c =
    classified_unchecked of_imports fault_kind _ _ _
    (is_task (g.N.NameMangling.scheme c.args.scheme.now) (lookup_scope c.args.context.now) c.args.name.now
    c.in-Some.function_name.now (function_view c.in-Some-2.function.now) _ c.in-Some.ensures (sym (rw c.in-Some-2.is at c.in_ok-function.ensures))
    (same_task _ _ _ _ _ c.in_ok-key.ensures c.in_ok-own.ensures))
