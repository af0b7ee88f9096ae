use Rattle.std.proofs.Common.{◌∷◌, [], refl}
use Rattle.wc_names.specs.WitIntrinsics.{task_return, no_task_return, task_cancel, of_async_value}
use Rattle.wc_validate.proofs.ClassificationLemmas.{classified_some, classified_none, group_some, group_none}
use Rattle.wc_validate.specs.Fault.{fault_kind}
use Rattle.wc_validate.specs.Private.Imports.Kinds.{IsIntrinsic}
use Rattle.wc_validate.specs.Private.Imports.Lookups.{lookup_scope}
use Rattle.wc_validate.proofs.StageLemmas.{one_stage, stage_err, stages_err}
use Rattle.wc_validate.specs.Classifications.{of_imports}
use Rattle.wc_validate.proofs.imports.intrinsics.task_intrinsic.Goals as goal

pub returns-in_err-returned : goal.returns-in_err-returned
returns-in_err-returned g c =
    let H = IsIntrinsic (g.N.NameMangling.scheme c.args.scheme.now) (lookup_scope c.args.context.now.lookup) c.args.name.now in
    (stages_err H (task_return ∷ no_task_return ∷ []) (task_cancel ∷ of_async_value ∷ []) _ _ _ c.from_residual.ensures.1 c.in_err-returned.ensures)

pub returns-in-Some : goal.returns-in-Some
returns-in-Some g c =
    let H = IsIntrinsic (g.N.NameMangling.scheme c.args.scheme.now) (lookup_scope c.args.context.now.lookup) c.args.name.now in
    (group_some of_imports fault_kind H (task_return ∷ no_task_return ∷ []) (task_cancel ∷ of_async_value ∷ []) _ _
    (rw c.in-Some.is at c.in_ok-returned.ensures) refl)

pub returns-in_err-cancelled-in-None : goal.returns-in_err-cancelled-in-None
returns-in_err-cancelled-in-None g c =
    let H = IsIntrinsic (g.N.NameMangling.scheme c.args.scheme.now) (lookup_scope c.args.context.now.lookup) c.args.name.now in
    (group_none of_imports fault_kind H (task_return ∷ no_task_return ∷ []) (task_cancel ∷ of_async_value ∷ []) _ _ _
    (rw c.in-None.is at c.in_ok-returned.ensures) refl
    (stage_err H (task_cancel) (of_async_value ∷ []) _ _ _ c.from_residual-in_err-cancelled-in-None.ensures.1
    (c.in_err-cancelled-in-None.ensures (lookup_scope c.args.context.now.lookup))))

pub returns-in-Some-2 : goal.returns-in-Some-2
returns-in-Some-2 g c =
    let H = IsIntrinsic (g.N.NameMangling.scheme c.args.scheme.now) (lookup_scope c.args.context.now.lookup) c.args.name.now in
    (group_none of_imports fault_kind H (task_return ∷ no_task_return ∷ []) (task_cancel ∷ of_async_value ∷ []) _ _ _
    (rw c.in-None.is at c.in_ok-returned.ensures) refl
    (classified_some of_imports fault_kind H (task_cancel) (of_async_value ∷ []) _ _
    (rw c.in-Some-2.is at (c.in_ok-cancelled-in-None.ensures (lookup_scope c.args.context.now.lookup))) refl))

pub returns-in-None-2 : goal.returns-in-None-2
returns-in-None-2 g c =
    let H = IsIntrinsic (g.N.NameMangling.scheme c.args.scheme.now) (lookup_scope c.args.context.now.lookup) c.args.name.now in
    (group_none of_imports fault_kind H (task_return ∷ no_task_return ∷ []) (task_cancel ∷ of_async_value ∷ []) _ _ _
    (rw c.in-None.is at c.in_ok-returned.ensures) refl
    (classified_none of_imports fault_kind H (task_cancel) (of_async_value ∷ []) _ _ _
    (rw c.in-None-2.is at (c.in_ok-cancelled-in-None.ensures (lookup_scope c.args.context.now.lookup))) refl
    (one_stage H of_async_value _ _ c.async_value.ensures)))
