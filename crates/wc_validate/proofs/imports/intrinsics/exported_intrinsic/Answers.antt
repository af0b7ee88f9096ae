use Rattle.std.proofs.Common.{◌∷◌, [], refl}
use Rattle.wc_names.specs.Mangling.{resource_drop, resource_new, resource_rep}
use Rattle.wc_names.specs.WitIntrinsics.{of_resource, task_return, no_task_return, task_cancel, of_async_value}
use Rattle.wc_validate.proofs.ClassificationLemmas.{classified_some, classified_none}
use Rattle.wc_validate.specs.Fault.{fault_kind}
use Rattle.wc_validate.specs.Private.Imports.Kinds.{IsIntrinsic}
use Rattle.wc_validate.specs.Private.Imports.Lookups.{lookup_scope}
use Rattle.wc_validate.proofs.StageLemmas.{stage_err}
use Rattle.wc_validate.specs.Classifications.{of_imports}
use Rattle.wc_validate.proofs.imports.intrinsics.exported_intrinsic.Goals as goal

pub returns-in_err-dropped : goal.returns-in_err-dropped
returns-in_err-dropped g c =
    let H = IsIntrinsic (g.N.NameMangling.scheme c.args.scheme.now) (lookup_scope c.args.context.now.lookup) c.args.name.now in
    (stage_err H (of_resource resource_drop)
    (of_resource resource_new ∷ of_resource resource_rep ∷ task_return ∷ no_task_return ∷ task_cancel ∷ of_async_value ∷ [])
    _ _ _ c.from_residual.ensures.1 c.in_err-dropped.ensures)

pub returns-in-Some : goal.returns-in-Some
returns-in-Some g c =
    let H = IsIntrinsic (g.N.NameMangling.scheme c.args.scheme.now) (lookup_scope c.args.context.now.lookup) c.args.name.now in
    (classified_some of_imports fault_kind H (of_resource resource_drop)
    (of_resource resource_new ∷ of_resource resource_rep ∷ task_return ∷ no_task_return ∷ task_cancel ∷ of_async_value ∷ []) _ _
    (rw c.in-Some.is at c.in_ok-dropped.ensures) refl)

pub returns-in_err-made-in-None : goal.returns-in_err-made-in-None
returns-in_err-made-in-None g c =
    let H = IsIntrinsic (g.N.NameMangling.scheme c.args.scheme.now) (lookup_scope c.args.context.now.lookup) c.args.name.now in
    (classified_none of_imports fault_kind H (of_resource resource_drop)
    (of_resource resource_new ∷ of_resource resource_rep ∷ task_return ∷ no_task_return ∷ task_cancel ∷ of_async_value ∷ []) _ _ _
    (rw c.in-None.is at c.in_ok-dropped.ensures) refl
    (stage_err H (of_resource resource_new) (of_resource resource_rep ∷ task_return ∷ no_task_return ∷ task_cancel ∷ of_async_value ∷ [])
    _ _ _ c.from_residual-in_err-made-in-None.ensures.1 c.in_err-made-in-None.ensures))

pub returns-in-Some-2 : goal.returns-in-Some-2
returns-in-Some-2 g c =
    let H = IsIntrinsic (g.N.NameMangling.scheme c.args.scheme.now) (lookup_scope c.args.context.now.lookup) c.args.name.now in
    (classified_none of_imports fault_kind H (of_resource resource_drop)
    (of_resource resource_new ∷ of_resource resource_rep ∷ task_return ∷ no_task_return ∷ task_cancel ∷ of_async_value ∷ []) _ _ _
    (rw c.in-None.is at c.in_ok-dropped.ensures) refl
    (classified_some of_imports fault_kind H (of_resource resource_new)
    (of_resource resource_rep ∷ task_return ∷ no_task_return ∷ task_cancel ∷ of_async_value ∷ []) _ _
    (rw c.in-Some-2.is at c.in_ok-made-in-None.ensures) refl))

pub returns-in_err-represented-in-None-2 : goal.returns-in_err-represented-in-None-2
returns-in_err-represented-in-None-2 g c =
    let H = IsIntrinsic (g.N.NameMangling.scheme c.args.scheme.now) (lookup_scope c.args.context.now.lookup) c.args.name.now in
    (classified_none of_imports fault_kind H (of_resource resource_drop)
    (of_resource resource_new ∷ of_resource resource_rep ∷ task_return ∷ no_task_return ∷ task_cancel ∷ of_async_value ∷ []) _ _ _
    (rw c.in-None.is at c.in_ok-dropped.ensures) refl
    (classified_none of_imports fault_kind H (of_resource resource_new)
    (of_resource resource_rep ∷ task_return ∷ no_task_return ∷ task_cancel ∷ of_async_value ∷ []) _ _ _
    (rw c.in-None-2.is at c.in_ok-made-in-None.ensures) refl
    (stage_err H (of_resource resource_rep) (task_return ∷ no_task_return ∷ task_cancel ∷ of_async_value ∷ [])
    _ _ _ c.from_residual-in_err-represented-in-None-2.ensures.1 c.in_err-represented-in-None-2.ensures)))

pub returns-in-Some-3 : goal.returns-in-Some-3
returns-in-Some-3 g c =
    let H = IsIntrinsic (g.N.NameMangling.scheme c.args.scheme.now) (lookup_scope c.args.context.now.lookup) c.args.name.now in
    (classified_none of_imports fault_kind H (of_resource resource_drop)
    (of_resource resource_new ∷ of_resource resource_rep ∷ task_return ∷ no_task_return ∷ task_cancel ∷ of_async_value ∷ []) _ _ _
    (rw c.in-None.is at c.in_ok-dropped.ensures) refl
    (classified_none of_imports fault_kind H (of_resource resource_new)
    (of_resource resource_rep ∷ task_return ∷ no_task_return ∷ task_cancel ∷ of_async_value ∷ []) _ _ _
    (rw c.in-None-2.is at c.in_ok-made-in-None.ensures) refl
    (classified_some of_imports fault_kind H (of_resource resource_rep) (task_return ∷ no_task_return ∷ task_cancel ∷ of_async_value ∷ []) _ _
    (rw c.in-Some-3.is at c.in_ok-represented-in-None-2.ensures) refl)))

pub returns-in-None-3 : goal.returns-in-None-3
returns-in-None-3 g c =
    let H = IsIntrinsic (g.N.NameMangling.scheme c.args.scheme.now) (lookup_scope c.args.context.now.lookup) c.args.name.now in
    (classified_none of_imports fault_kind H (of_resource resource_drop)
    (of_resource resource_new ∷ of_resource resource_rep ∷ task_return ∷ no_task_return ∷ task_cancel ∷ of_async_value ∷ []) _ _ _
    (rw c.in-None.is at c.in_ok-dropped.ensures) refl
    (classified_none of_imports fault_kind H (of_resource resource_new)
    (of_resource resource_rep ∷ task_return ∷ no_task_return ∷ task_cancel ∷ of_async_value ∷ []) _ _ _
    (rw c.in-None-2.is at c.in_ok-made-in-None.ensures) refl
    (classified_none of_imports fault_kind H (of_resource resource_rep) (task_return ∷ no_task_return ∷ task_cancel ∷ of_async_value ∷ []) _ _ _
    (rw c.in-None-3.is at c.in_ok-represented-in-None-2.ensures) refl
    c.task_intrinsic.ensures)))
