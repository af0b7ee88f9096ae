use Rattle.std.proofs.Common.{refl}
use Rattle.wc_names.specs.Views.{error_context_drop, backpressure_inc, backpressure_dec, waitable_set_new, waitable_set_wait, waitable_set_poll, waitable_set_drop, waitable_join, subtask_drop, subtask_cancel}
use Rattle.wc_validate.specs.Fault.{fault_kind}
use Rattle.wc_validate.proofs.ClassificationLemmas.{classified_import}
use Rattle.wc_validate.proofs.BuiltinLemmas.{any_of_later, not_so}
use Rattle.wc_validate.proofs.imports.builtins.root_builtin.Goals as goal

pub returns-then-error_context_drop : goal.returns-then-error_context_drop
returns-then-error_context_drop g c =
    classified_import fault_kind _ _ _ _ _ c.checked.ensures
    (error_context_drop, tt, c.error_context_drop.ensures.0 c.if-error_context_drop.true, refl)

pub returns-then-backpressure_inc : goal.returns-then-backpressure_inc
returns-then-backpressure_inc g c =
    classified_import fault_kind _ _ _ _ _ c.checked-then-backpressure_inc.ensures
    (backpressure_inc, tt, c.backpressure_inc.ensures.0 c.if-backpressure_inc.true, refl)

pub returns-then-backpressure_dec : goal.returns-then-backpressure_dec
returns-then-backpressure_dec g c =
    classified_import fault_kind _ _ _ _ _ c.checked-then-backpressure_dec.ensures
    (backpressure_dec, tt, c.backpressure_dec.ensures.0 c.if-backpressure_dec.true, refl)

pub returns-then-waitable_set_new : goal.returns-then-waitable_set_new
returns-then-waitable_set_new g c =
    classified_import fault_kind _ _ _ _ _ c.checked-then-waitable_set_new.ensures
    (waitable_set_new, tt, c.waitable_set_new.ensures.0 c.if-waitable_set_new.true, refl)

pub returns-in-Some : goal.returns-in-Some
returns-in-Some g c =
    classified_import fault_kind _ _ _ _ _ c.checked-in-Some.ensures (waitable_set_wait c.in-Some.pointer, tt, c.in-Some.ensures, refl)

pub returns-in-Some-waitable_set_poll : goal.returns-in-Some-waitable_set_poll
returns-in-Some-waitable_set_poll g c =
    classified_import fault_kind _ _ _ _ _ c.checked-in-Some-waitable_set_poll.ensures
    (waitable_set_poll c.in-Some-waitable_set_poll.pointer, tt, c.in-Some-waitable_set_poll.ensures, refl)

pub returns-then-waitable_set_drop : goal.returns-then-waitable_set_drop
returns-then-waitable_set_drop g c =
    classified_import fault_kind _ _ _ _ _ c.checked-then-waitable_set_drop.ensures
    (waitable_set_drop, tt, c.waitable_set_drop.ensures.0 c.if-waitable_set_drop.true, refl)

pub returns-then-waitable_join : goal.returns-then-waitable_join
returns-then-waitable_join g c =
    classified_import fault_kind _ _ _ _ _ c.checked-then-waitable_join.ensures
    (waitable_join, tt, c.waitable_join.ensures.0 c.if-waitable_join.true, refl)

pub returns-then-subtask_drop : goal.returns-then-subtask_drop
returns-then-subtask_drop g c =
    classified_import fault_kind _ _ _ _ _ c.checked-then-subtask_drop.ensures
    (subtask_drop, tt, c.subtask_drop.ensures.0 c.if-subtask_drop.true, refl)

pub returns-in-Some-subtask_cancel : goal.returns-in-Some-subtask_cancel
returns-in-Some-subtask_cancel g c =
    classified_import fault_kind _ _ _ _ _ c.checked-in-Some-subtask_cancel.ensures
    (subtask_cancel c.in-Some-subtask_cancel.lowered.async_lowered, tt, c.in-Some-subtask_cancel.ensures, refl)

pub returns : goal.returns
returns g c =
    any_of_later fault_kind (g.N.NameMangling.scheme c.args.scheme.now) c.args.name.now _ c.later_builtin.result
    (not_so c.error_context_drop.result _ c.error_context_drop.ensures c.if-error_context_drop.false)
    (not_so c.backpressure_inc.result _ c.backpressure_inc.ensures c.if-backpressure_inc.false)
    (not_so c.backpressure_dec.result _ c.backpressure_dec.ensures c.if-backpressure_dec.false)
    (not_so c.waitable_set_new.result _ c.waitable_set_new.ensures c.if-waitable_set_new.false)
    (not_so c.waitable_set_drop.result _ c.waitable_set_drop.ensures c.if-waitable_set_drop.false)
    (not_so c.waitable_join.result _ c.waitable_join.ensures c.if-waitable_join.false)
    (not_so c.subtask_drop.result _ c.subtask_drop.ensures c.if-subtask_drop.false)
    c.in_default.ensures c.in_default-waitable_set_poll.ensures c.in_default-subtask_cancel.ensures c.later_builtin.ensures
