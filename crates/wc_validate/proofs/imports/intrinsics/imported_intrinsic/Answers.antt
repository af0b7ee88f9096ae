use Rattle.std.proofs.Common.{◌∷◌, [], refl}
use Rattle.wc_names.specs.Mangling.{resource_drop}
use Rattle.wc_names.specs.WitIntrinsics.{of_resource, of_async_value}
use Rattle.wc_validate.proofs.ClassificationLemmas.{classified_some, classified_none}
use Rattle.wc_validate.specs.Fault.{fault_kind}
use Rattle.wc_validate.specs.Private.Imports.Kinds.{IsIntrinsic}
use Rattle.wc_validate.specs.Private.Imports.Lookups.{lookup_scope}
use Rattle.wc_validate.proofs.StageLemmas.{one_stage, stage_err}
use Rattle.wc_validate.specs.Classifications.{of_imports}
use Rattle.wc_validate.proofs.imports.intrinsics.imported_intrinsic.Goals as goal

pub returns-in_err-dropped : goal.returns-in_err-dropped
returns-in_err-dropped g c =
    let H = IsIntrinsic (g.N.NameMangling.scheme c.args.scheme.now) (lookup_scope c.args.context.now.lookup) c.args.name.now in
    (stage_err H (of_resource resource_drop) (of_async_value ∷ []) _ _ _ c.from_residual.ensures.1 c.in_err-dropped.ensures)

pub returns-in-Some : goal.returns-in-Some
returns-in-Some g c =
    let H = IsIntrinsic (g.N.NameMangling.scheme c.args.scheme.now) (lookup_scope c.args.context.now.lookup) c.args.name.now in
    (classified_some of_imports fault_kind H (of_resource resource_drop) (of_async_value ∷ []) _ _ (rw c.in-Some.is at c.in_ok-dropped.ensures) refl)

pub returns-in-None : goal.returns-in-None
returns-in-None g c =
    let H = IsIntrinsic (g.N.NameMangling.scheme c.args.scheme.now) (lookup_scope c.args.context.now.lookup) c.args.name.now in
    (classified_none of_imports fault_kind H (of_resource resource_drop) (of_async_value ∷ []) _ _ _ (rw c.in-None.is at c.in_ok-dropped.ensures) refl
    (one_stage H of_async_value _ _ c.async_value.ensures))
