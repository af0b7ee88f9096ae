use Rattle.std.proofs.Common.{refl}
use Rattle.wc_names.specs.Views.{error_context_new, error_context_debug_message, context_get, context_set}
use Rattle.wc_validate.specs.Fault.{fault_kind}
use Rattle.wc_validate.proofs.ClassificationLemmas.{classified_import}
use Rattle.wc_validate.proofs.BuiltinLemmas.{later_of_threads}
use Rattle.wc_validate.proofs.imports.builtins.later_builtin.Goals as goal

pub returns-in-Some : goal.returns-in-Some
returns-in-Some g c =
    classified_import fault_kind _ _ _ _ _ c.checked.ensures (error_context_new c.in-Some.encoding, tt, c.in-Some.ensures, refl)

pub returns-in-Some-error_context_debug_message : goal.returns-in-Some-error_context_debug_message
returns-in-Some-error_context_debug_message g c =
    classified_import fault_kind _ _ _ _ _ c.checked-in-Some-error_context_debug_message.ensures
    (error_context_debug_message c.in-Some-error_context_debug_message.encoding, tt, c.in-Some-error_context_debug_message.ensures, refl)

pub returns-in-Some-context_get : goal.returns-in-Some-context_get
returns-in-Some-context_get g c =
    classified_import fault_kind _ _ _ _ _ c.checked-in-Some-context_get.ensures
    (context_get c.in-Some-context_get.slot.0 c.in-Some-context_get.slot.1, tt, c.in-Some-context_get.ensures, refl)

pub returns-in-Some-context_set : goal.returns-in-Some-context_set
returns-in-Some-context_set g c =
    classified_import fault_kind _ _ _ _ _ c.checked-in-Some-context_set.ensures
    (context_set c.in-Some-context_set.slot.0 c.in-Some-context_set.slot.1, tt, c.in-Some-context_set.ensures, refl)

pub returns : goal.returns
returns g c =
    later_of_threads fault_kind (g.N.NameMangling.scheme c.args.scheme.now) c.args.name.now _ c.thread_builtin.result
    c.in_default.ensures c.in_default-error_context_debug_message.ensures c.in_default-context_get.ensures c.in_default-context_set.ensures
    c.thread_builtin.ensures
