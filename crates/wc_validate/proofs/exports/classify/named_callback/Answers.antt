use Rattle.wc_read.specs.Types.{func_type_value}
use Rattle.wc_names.specs.ExportViews.{export_target}
use Rattle.wc_validate.proofs.ExportKindLemmas.{is_callback_of, no_callback, no_callback_of}
use Rattle.wc_validate.proofs.ClassificationLemmas.{classified_failed, export_made, classified_nothing}
use Rattle.wc_validate.specs.Classifications.{of_exports}
use Rattle.wc_validate.specs.Fault.{fault_kind}
use Rattle.std.proofs.Common.{refl}
use Rattle.wc_validate.proofs.exports.classify.named_callback.Goals as goal

pub returns-in_default : goal.returns-in_default
returns-in_default g c = λ e named.
    classified_nothing of_exports fault_kind _ _ (no_callback (g.N.NameMangling.scheme c.args.scheme.now) e c.args.exports.now named c.args.name.now
    (func_type_value c.args.ty.now)
    c.in_default.ensures)

pub returns-in_err-target : goal.returns-in_err-target
returns-in_err-target g c = λ e named. classified_failed of_exports fault_kind _ _ _ _ c.from_residual.ensures.1 refl

pub returns-in_default-2 : goal.returns-in_default-2
returns-in_default-2 g c = λ e named.
    classified_nothing of_exports fault_kind _ _ (no_callback_of (g.N.NameMangling.scheme c.args.scheme.now) e c.args.exports.now named c.args.name.now
    (func_type_value c.args.ty.now)
    c.in-Some.called.now c.in-Some.ensures (rw c.in_default-2.is at c.in_ok-target.ensures))

pub returns-in_err-own : goal.returns-in_err-own
returns-in_err-own g c = λ e named. classified_failed of_exports fault_kind _ _ _ _ c.from_residual-in_err-own.ensures.1 refl

pub returns : goal.returns
returns g c = λ e named.
    export_made fault_kind _ _ _ (func_type_value c.args.ty.now) _ _ c.checked.ensures c.in_ok-own.ensures
    (is_callback_of (g.N.NameMangling.scheme c.args.scheme.now) e c.args.exports.now named c.args.name.now (func_type_value c.args.ty.now) c.in-Some.called.now
    (export_target c.in-Some-2.target) c.in-Some.ensures (rw c.in-Some-2.is at c.in_ok-target.ensures))
