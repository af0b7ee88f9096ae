use Rattle.std.proofs.Common.{◌∷◌, [], map, refl, true}
use Rattle.wc_read.specs.Types.{func_type_value}
use Rattle.wc_names.specs.Imports.{IsKind, root_intrinsic, root_other_item, root_unknown}
use Rattle.wc_names.specs.Mangling.{root_module}
use Rattle.wc_names.specs.WitIntrinsics.{wit_intrinsics}
use Rattle.wc_validate.proofs.ClassificationLemmas.{group_some, group_none}
use Rattle.wc_validate.specs.Fault.{fault_kind}
use Rattle.wc_validate.specs.NameScope.{imported_function, name_scope_of}
use Rattle.wc_validate.proofs.ImportRootLemmas.{of_root_intrinsics}
use Rattle.wc_validate.proofs.StageLemmas.{failed, stages_err, still_err}
use Rattle.wc_validate.specs.Classifications.{of_imports}
use Rattle.wc_validate.proofs.imports.root.root_other.Goals as goal

pub returns-in_err-import : goal.returns-in_err-import
returns-in_err-import g c =
    let s = g.N.NameMangling.scheme c.args.scheme.now in
    let e = name_scope_of c.args.names.now in
    let ty = func_type_value c.args.ty.now in
    let H = IsKind s e (imported_function (root_module s) c.args.name.now ty) in
    (stages_err H (map root_intrinsic (wit_intrinsics true)) (root_other_item ∷ root_unknown ∷ []) _ _ _ (still_err _ _ c.from_residual.ensures.1)
    (of_root_intrinsics fault_kind s e c.args.name.now ty _ c.in_err-import.ensures))

pub returns-in-Some : goal.returns-in-Some
returns-in-Some g c =
    let s = g.N.NameMangling.scheme c.args.scheme.now in
    let e = name_scope_of c.args.names.now in
    let ty = func_type_value c.args.ty.now in
    let H = IsKind s e (imported_function (root_module s) c.args.name.now ty) in
    (group_some of_imports fault_kind H (map root_intrinsic (wit_intrinsics true)) (root_other_item ∷ root_unknown ∷ []) _ _
    (of_root_intrinsics fault_kind s e c.args.name.now ty _ (rw c.in-Some.is at c.in_ok-import.ensures)) refl)

pub returns-in_err-root_unknown-in-None : goal.returns-in_err-root_unknown-in-None
returns-in_err-root_unknown-in-None g c = failed _ _ _ (still_err _ _ c.from_residual-in_err-root_unknown-in-None.ensures.1)

pub returns : goal.returns
returns g c =
    let s = g.N.NameMangling.scheme c.args.scheme.now in
    let e = name_scope_of c.args.names.now in
    let ty = func_type_value c.args.ty.now in
    let H = IsKind s e (imported_function (root_module s) c.args.name.now ty) in
    (group_none of_imports fault_kind H (map root_intrinsic (wit_intrinsics true)) (root_other_item ∷ root_unknown ∷ []) _ _ _
    (of_root_intrinsics fault_kind s e c.args.name.now ty _ (rw c.in-None.is at c.in_ok-import.ensures)) refl
    (c.in_ok-root_unknown-in-None.ensures c.args.ty.now))
