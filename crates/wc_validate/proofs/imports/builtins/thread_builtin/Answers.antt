use Rattle.std.proofs.Common.{Some, ap, ◌∙◌}
use Rattle.wc_names.specs.Builtins.{builtin_type}
use Rattle.wc_names.specs.Meanings.{means}
use Rattle.wc_validate.specs.Private.Imports.Builtins.{thread_type}
use Rattle.wc_validate.specs.Fault.{fault_kind}
use Rattle.wc_validate.proofs.ClassificationLemmas.{classified_import, classified_nothing}
use Rattle.wc_validate.proofs.BuiltinLemmas.{thread_signature}
use Rattle.wc_validate.specs.Classifications.{of_imports}
use Rattle.wc_validate.proofs.imports.builtins.thread_builtin.Goals as goal

pub returns-in-Some : goal.returns-in-Some
returns-in-Some g c =
    let named = c.in-Some.ensures in
    let required_type = builtin_type named.0 in
    classified_import fault_kind _ _ _ _ required_type (c.checked_thread.ensures required_type (ap thread_type named.3 ∙ thread_signature named.0 named.1))
    (named.0, named.1, named.2, ap (λ i. means i (Some required_type)) named.3)

pub returns-in-None : goal.returns-in-None
returns-in-None g c = classified_nothing of_imports fault_kind _ _ (λ m h. c.in-None.ensures h.0 h.1 h.2)
