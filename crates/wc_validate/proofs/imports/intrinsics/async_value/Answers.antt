use Rattle.std.proofs.Common.{Some, refl, ap}
use Rattle.wc_resolve.specs.Views.{world_view}
use Rattle.wc_names.specs.AsyncValues.{operation_row}
use Rattle.wc_names.specs.Meanings.{means}
use Rattle.wc_names.specs.Views.{async_value}
use Rattle.wc_validate.proofs.ClassificationLemmas.{classified_import, classified_nothing}
use Rattle.wc_validate.specs.Private.Imports.Builtins.{async_value_type}
use Rattle.wc_validate.specs.Fault.{fault_kind}
use Rattle.wc_validate.proofs.ScopeLemmas.{world_in_range}
use Rattle.wc_validate.proofs.StageLemmas.{failed}
use Rattle.wc_validate.specs.Classifications.{of_imports}
use Rattle.wc_validate.proofs.imports.intrinsics.async_value.Goals as goal

pub payload_intrinsic_in_world-requires-clause-world : goal.payload_intrinsic_in_world-requires-clause-world
payload_intrinsic_in_world-requires-clause-world g c =
    world_in_range c.args.context.now.lookup.resolve.now c.requires.index (world_view c.args.context.now.lookup.world.now) c.well_formedness.ensures c.requires.is_world

pub returns-in_err-import : goal.returns-in_err-import
returns-in_err-import g c = failed _ _ _ c.from_residual.ensures.1

pub returns-in-Some : goal.returns-in-Some
returns-in-Some g c =
    let named = rw c.in-Some.is at c.in_ok-import.ensures in
    let required_type = (operation_row named.0 named.1).ty in
    classified_import fault_kind _ _ _ _ required_type (c.checked_async_value.ensures required_type (ap async_value_type named.5))
    (named.0, named.1, named.2, named.3, named.4, ap (λ i. means i (Some required_type)) named.5)

pub returns-in-None : goal.returns-in-None
returns-in-None g c =
    let none = rw c.in-None.is at c.in_ok-import.ensures in
    classified_nothing of_imports fault_kind _ _ (λ m h. none (async_value h.0 h.1 h.2 h.3) (h.0, h.1, h.2, h.3, h.4, refl))
