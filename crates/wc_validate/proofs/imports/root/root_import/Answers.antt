use Rattle.std.proofs.Common.{◌∷◌, refl}
use Rattle.wc_read.specs.Types.{func_type_value}
use Rattle.wc_names.specs.Imports.{IsKind, root_builtin, root_function}
use Rattle.wc_names.specs.Mangling.{root_module}
use Rattle.wc_validate.proofs.ClassificationLemmas.{classified_some, classified_none}
use Rattle.wc_validate.specs.Fault.{fault_kind}
use Rattle.wc_validate.specs.Private.Imports.Kinds.{other_root_kinds}
use Rattle.wc_validate.specs.NameScope.{imported_function, name_scope_of}
use Rattle.wc_validate.proofs.ImportRootLemmas.{of_root_builtin}
use Rattle.wc_validate.proofs.StageLemmas.{stage_err, still_err}
use Rattle.wc_validate.specs.Classifications.{of_imports}
use Rattle.wc_validate.proofs.imports.root.root_import.Goals as goal

pub returns-in_err-builtin : goal.returns-in_err-builtin
returns-in_err-builtin g c =
    let s = g.N.NameMangling.scheme c.args.scheme.now in
    let e = name_scope_of c.args.names.now in
    let ty = func_type_value c.args.ty.now in
    let H = IsKind s e (imported_function (root_module s) c.args.name.now ty) in
    (stage_err H (root_builtin) (root_function ∷ other_root_kinds) _ _ _ (still_err _ _ c.from_residual.ensures.1)
    (of_root_builtin fault_kind s e c.args.name.now ty _ c.in_err-builtin.ensures))

pub returns-in-Some : goal.returns-in-Some
returns-in-Some g c =
    let s = g.N.NameMangling.scheme c.args.scheme.now in
    let e = name_scope_of c.args.names.now in
    let ty = func_type_value c.args.ty.now in
    let H = IsKind s e (imported_function (root_module s) c.args.name.now ty) in
    (classified_some of_imports fault_kind H (root_builtin) (root_function ∷ other_root_kinds) _ _
    (of_root_builtin fault_kind s e c.args.name.now ty _ (rw c.in-Some.is at c.in_ok-builtin.ensures)) refl)

pub returns-in_err-function-in-None : goal.returns-in_err-function-in-None
returns-in_err-function-in-None g c =
    let s = g.N.NameMangling.scheme c.args.scheme.now in
    let e = name_scope_of c.args.names.now in
    let ty = func_type_value c.args.ty.now in
    let H = IsKind s e (imported_function (root_module s) c.args.name.now ty) in
    (classified_none of_imports fault_kind H (root_builtin) (root_function ∷ other_root_kinds) _ _ _
    (of_root_builtin fault_kind s e c.args.name.now ty _ (rw c.in-None.is at c.in_ok-builtin.ensures)) refl
    (stage_err H (root_function) (other_root_kinds) _ _ _ (still_err _ _ c.from_residual-in_err-function-in-None.ensures.1) c.in_err-function-in-None.ensures))

pub returns-in-Some-2 : goal.returns-in-Some-2
returns-in-Some-2 g c =
    let s = g.N.NameMangling.scheme c.args.scheme.now in
    let e = name_scope_of c.args.names.now in
    let ty = func_type_value c.args.ty.now in
    let H = IsKind s e (imported_function (root_module s) c.args.name.now ty) in
    (classified_none of_imports fault_kind H (root_builtin) (root_function ∷ other_root_kinds) _ _ _
    (of_root_builtin fault_kind s e c.args.name.now ty _ (rw c.in-None.is at c.in_ok-builtin.ensures)) refl
    (classified_some of_imports fault_kind H (root_function) (other_root_kinds) _ _ (rw c.in-Some-2.is at c.in_ok-function-in-None.ensures) refl))

pub returns-in-None-2 : goal.returns-in-None-2
returns-in-None-2 g c =
    let s = g.N.NameMangling.scheme c.args.scheme.now in
    let e = name_scope_of c.args.names.now in
    let ty = func_type_value c.args.ty.now in
    let H = IsKind s e (imported_function (root_module s) c.args.name.now ty) in
    (classified_none of_imports fault_kind H (root_builtin) (root_function ∷ other_root_kinds) _ _ _
    (of_root_builtin fault_kind s e c.args.name.now ty _ (rw c.in-None.is at c.in_ok-builtin.ensures)) refl
    (classified_none of_imports fault_kind H (root_function) (other_root_kinds) _ _ _ (rw c.in-None-2.is at c.in_ok-function-in-None.ensures) refl
    c.root_other.ensures))
