use Rattle.std.proofs.Common.{◌∷◌, ◌++◌, [], map, false, refl}
use Rattle.wc_read.specs.Types.{func_type_value}
use Rattle.wc_names.specs.Imports.{IsKind, export_unknown, export_intrinsic, export_other_name}
use Rattle.wc_names.specs.Meanings.{unknown_intrinsic}
use Rattle.wc_names.specs.Mangling.{export_prefix, interface_prefix}
use Rattle.wc_names.specs.WitIntrinsics.{wit_intrinsics}
use Rattle.wc_validate.proofs.ClassificationLemmas.{group_some, group_none, classified_last, classified_next}
use Rattle.wc_validate.specs.declared.name_fault.NameFault.TheVariants.{UnknownIntrinsic}
use Rattle.wc_validate.specs.Fault.{fault_kind}
use Rattle.wc_validate.specs.Private.Imports.Interface.{found_view}
use Rattle.wc_validate.specs.NameScope.{imported_function, name_scope_of}
use Rattle.wc_validate.proofs.FoundLemmas.{export_known, of_export_intrinsics}
use Rattle.wc_validate.proofs.ImportInterfaceLemmas.{id_in_range}
use Rattle.wc_validate.proofs.StageLemmas.{stages_err, still_err}
use Rattle.wc_validate.specs.Classifications.{of_imports}
use Rattle.wc_validate.proofs.imports.interface.exported_item.Goals as goal

pub returns-in_err-import : goal.returns-in_err-import
returns-in_err-import g c = λ text named.
    let s = g.N.NameMangling.scheme c.args.scheme.now in
    let e = name_scope_of c.args.names.now in
    let ty = func_type_value c.args.function.ty.now in
    let found = found_view c.args.found in
    let H = IsKind s e (imported_function (interface_prefix s ++ (export_prefix s ++ text)) c.args.function.name.now ty) in
    classified_next of_imports fault_kind H export_unknown (map export_intrinsic (wit_intrinsics false) ++ (export_other_name ∷ [])) _ _
    (export_known fault_kind s e c.well_formedness.ensures text c.args.function.name.now ty found named)
    (stages_err H (map export_intrinsic (wit_intrinsics false)) (export_other_name ∷ []) _ _ _ (still_err _ _ c.from_residual.ensures.1)
    (of_export_intrinsics fault_kind s e c.well_formedness.ensures text c.args.function.name.now ty found named _ c.in_err-import.ensures))

pub returns-in-Some : goal.returns-in-Some
returns-in-Some g c = λ text named.
    let s = g.N.NameMangling.scheme c.args.scheme.now in
    let e = name_scope_of c.args.names.now in
    let ty = func_type_value c.args.function.ty.now in
    let found = found_view c.args.found in
    let H = IsKind s e (imported_function (interface_prefix s ++ (export_prefix s ++ text)) c.args.function.name.now ty) in
    classified_next of_imports fault_kind H export_unknown (map export_intrinsic (wit_intrinsics false) ++ (export_other_name ∷ [])) _ _
    (export_known fault_kind s e c.well_formedness.ensures text c.args.function.name.now ty found named)
    (group_some of_imports fault_kind H (map export_intrinsic (wit_intrinsics false)) (export_other_name ∷ []) _ _
    (of_export_intrinsics fault_kind s e c.well_formedness.ensures text c.args.function.name.now ty found named _ (rw c.in-Some.is at c.in_ok-import.ensures))
    refl)

pub returns : goal.returns
returns g c = λ text named.
    let s = g.N.NameMangling.scheme c.args.scheme.now in
    let e = name_scope_of c.args.names.now in
    let ty = func_type_value c.args.function.ty.now in
    let found = found_view c.args.found in
    let H = IsKind s e (imported_function (interface_prefix s ++ (export_prefix s ++ text)) c.args.function.name.now ty) in
    classified_next of_imports fault_kind H export_unknown (map export_intrinsic (wit_intrinsics false) ++ (export_other_name ∷ [])) _ _
    (export_known fault_kind s e c.well_formedness.ensures text c.args.function.name.now ty found named)
    (group_none of_imports fault_kind H (map export_intrinsic (wit_intrinsics false)) (export_other_name ∷ []) _ _ _
    (of_export_intrinsics fault_kind s e c.well_formedness.ensures text c.args.function.name.now ty found named _ (rw c.in-None.is at c.in_ok-import.ensures))
    refl
    (classified_last of_imports fault_kind H export_other_name _ UnknownIntrinsic unknown_intrinsic refl (text, refl, refl)))

pub exported_intrinsic-requires : goal.exported_intrinsic-requires
exported_intrinsic-requires g c =
    record {
      index = c.requires.world.0;
      is_world = c.requires.world.1;
      interface_in = λ x is. id_in_range c.args.names.now.resolve.now c.args.found.id x c.requires.interface is;
    }
