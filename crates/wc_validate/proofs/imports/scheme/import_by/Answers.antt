use Rattle.std.proofs.Common.{◌≡◌, ◌++◌, refl, sym, ◌∙◌}
use Rattle.std.proofs.lemmas.Slice.Eq.{bytes_eq-Decides}
use Rattle.wc_read.specs.Types.{func_type_value}
use Rattle.wc_names.specs.Imports.{IsKind, environment}
use Rattle.wc_names.specs.Mangling.{root_module}
use Rattle.wc_validate.proofs.ClassificationLemmas.{group_none, group_some, classified_none, classified_some}
use Rattle.wc_validate.specs.Fault.{fault_kind}
use Rattle.wc_validate.specs.Private.Imports.Kinds.{export_root_kinds, other_kinds}
use Rattle.wc_validate.specs.NameScope.{imported_function, lookup_name_scope}
use Rattle.wc_validate.proofs.BuiltinLemmas.{not_equal}
use Rattle.wc_validate.proofs.ImportSchemeLemmas.{of_other, of_root}
use Rattle.wc_validate.proofs.StageLemmas.{stage_err, stages_err, still_err}
use Rattle.wc_validate.specs.Classifications.{of_imports}
use Rattle.wc_validate.proofs.imports.scheme.import_by.Goals as goal

pub returns-then-eq : goal.returns-then-eq
returns-then-eq g c =
    of_root fault_kind (g.N.NameMangling.scheme c.args.scheme.now) (lookup_name_scope c.args.lookup) c.args.function.name.now
    (func_type_value c.args.function.ty.now) c.args.function.module_name.now _
    ((bytes_eq-Decides c.args.function.module_name.now c.import_root.result.now).0 (sym c.if-eq.ensures) ∙ c.import_root.ensures) c.root_import.ensures

pub returns-in_err-variable : goal.returns-in_err-variable
returns-in_err-variable g c =
    let s = g.N.NameMangling.scheme c.args.scheme.now in
    let e = lookup_name_scope c.args.lookup in
    let ty = func_type_value c.args.function.ty.now in
    let H = IsKind s e (imported_function c.args.function.module_name.now c.args.function.name.now ty) in
    let other : ¬ (c.args.function.module_name.now ≡ root_module s) = λ is. not_equal c.args.function.module_name.now c.import_root.result.now
    (sym c.if-eq.ensures) (is ∙ sym c.import_root.ensures) in
    of_other fault_kind s e c.args.function.name.now ty c.args.function.module_name.now _ other
    (stage_err H environment (export_root_kinds ++ other_kinds) _ _ _ (still_err _ _ c.from_residual.ensures.1) c.in_err-variable.ensures)

pub returns-in-Some : goal.returns-in-Some
returns-in-Some g c =
    let s = g.N.NameMangling.scheme c.args.scheme.now in
    let e = lookup_name_scope c.args.lookup in
    let ty = func_type_value c.args.function.ty.now in
    let H = IsKind s e (imported_function c.args.function.module_name.now c.args.function.name.now ty) in
    let other : ¬ (c.args.function.module_name.now ≡ root_module s) = λ is. not_equal c.args.function.module_name.now c.import_root.result.now
    (sym c.if-eq.ensures) (is ∙ sym c.import_root.ensures) in
    of_other fault_kind s e c.args.function.name.now ty c.args.function.module_name.now _ other
    (classified_some of_imports fault_kind H environment (export_root_kinds ++ other_kinds) _ _ (rw c.in-Some.is at c.in_ok-variable.ensures) refl)

pub returns-in_err-intrinsic-in-None : goal.returns-in_err-intrinsic-in-None
returns-in_err-intrinsic-in-None g c =
    let s = g.N.NameMangling.scheme c.args.scheme.now in
    let e = lookup_name_scope c.args.lookup in
    let ty = func_type_value c.args.function.ty.now in
    let H = IsKind s e (imported_function c.args.function.module_name.now c.args.function.name.now ty) in
    let other : ¬ (c.args.function.module_name.now ≡ root_module s) = λ is. not_equal c.args.function.module_name.now c.import_root.result.now
    (sym c.if-eq.ensures) (is ∙ sym c.import_root.ensures) in
    of_other fault_kind s e c.args.function.name.now ty c.args.function.module_name.now _ other
    (classified_none of_imports fault_kind H environment (export_root_kinds ++ other_kinds) _ _ _ (rw c.in-None.is at c.in_ok-variable.ensures) refl
    (stages_err H export_root_kinds other_kinds _ _ _ (still_err _ _ c.from_residual-in_err-intrinsic-in-None.ensures.1) c.in_err-intrinsic-in-None.ensures))

pub returns-in-Some-2 : goal.returns-in-Some-2
returns-in-Some-2 g c =
    let s = g.N.NameMangling.scheme c.args.scheme.now in
    let e = lookup_name_scope c.args.lookup in
    let ty = func_type_value c.args.function.ty.now in
    let H = IsKind s e (imported_function c.args.function.module_name.now c.args.function.name.now ty) in
    let other : ¬ (c.args.function.module_name.now ≡ root_module s) = λ is. not_equal c.args.function.module_name.now c.import_root.result.now
    (sym c.if-eq.ensures) (is ∙ sym c.import_root.ensures) in
    of_other fault_kind s e c.args.function.name.now ty c.args.function.module_name.now _ other
    (classified_none of_imports fault_kind H environment (export_root_kinds ++ other_kinds) _ _ _ (rw c.in-None.is at c.in_ok-variable.ensures) refl
    (group_some of_imports fault_kind H export_root_kinds other_kinds _ _ (rw c.in-Some-2.is at c.in_ok-intrinsic-in-None.ensures) refl))

pub returns-in-None-2 : goal.returns-in-None-2
returns-in-None-2 g c =
    let s = g.N.NameMangling.scheme c.args.scheme.now in
    let e = lookup_name_scope c.args.lookup in
    let ty = func_type_value c.args.function.ty.now in
    let H = IsKind s e (imported_function c.args.function.module_name.now c.args.function.name.now ty) in
    let other : ¬ (c.args.function.module_name.now ≡ root_module s) = λ is. not_equal c.args.function.module_name.now c.import_root.result.now
    (sym c.if-eq.ensures) (is ∙ sym c.import_root.ensures) in
    of_other fault_kind s e c.args.function.name.now ty c.args.function.module_name.now _ other
    (classified_none of_imports fault_kind H environment (export_root_kinds ++ other_kinds) _ _ _ (rw c.in-None.is at c.in_ok-variable.ensures) refl
    (group_none of_imports fault_kind H export_root_kinds other_kinds _ _ _
    (rw c.in-None-2.is at c.in_ok-intrinsic-in-None.ensures) refl c.interface_import.ensures))
