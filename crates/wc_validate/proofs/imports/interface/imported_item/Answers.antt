use Rattle.std.proofs.Common.{◌∷◌, ◌++◌, [], map, true, refl}
use Rattle.wc_read.specs.Types.{func_type_value}
use Rattle.wc_names.specs.Imports.{IsKind, interface_unknown, interface_function, interface_intrinsic, interface_other_name}
use Rattle.wc_names.specs.Meanings.{missing_function}
use Rattle.wc_names.specs.Mangling.{interface_prefix}
use Rattle.wc_names.specs.WitIntrinsics.{wit_intrinsics}
use Rattle.wc_validate.proofs.ClassificationLemmas.{group_some, group_none, classified_last, classified_next, classified_none, classified_some}
use Rattle.wc_validate.specs.declared.name_fault.NameFault.TheVariants.{MissingFunction}
use Rattle.wc_validate.specs.Fault.{fault_kind}
use Rattle.wc_validate.specs.Private.Imports.Interface.{found_view}
use Rattle.wc_validate.specs.NameScope.{imported_function, name_scope_of}
use Rattle.wc_validate.proofs.FoundLemmas.{import_known, of_interface_function, of_interface_intrinsics}
use Rattle.wc_validate.proofs.ImportInterfaceLemmas.{id_in_range}
use Rattle.wc_validate.proofs.StageLemmas.{stage_err, stages_err, still_err}
use Rattle.wc_validate.specs.Classifications.{of_imports}
use Rattle.wc_validate.proofs.imports.interface.imported_item.Goals as goal

pub returns-in_err-lowered : goal.returns-in_err-lowered
returns-in_err-lowered g c = λ text named.
    let s = g.N.NameMangling.scheme c.args.scheme.now in
    let e = name_scope_of c.args.names.now in
    let ty = func_type_value c.args.function.ty.now in
    let found = found_view c.args.found in
    let H = IsKind s e (imported_function (interface_prefix s ++ text) c.args.function.name.now ty) in
    classified_next of_imports fault_kind H interface_unknown (interface_function ∷
    (map interface_intrinsic (wit_intrinsics true) ++ (interface_other_name ∷ []))) _ _
    (import_known fault_kind s e c.well_formedness.ensures text c.args.function.name.now ty found named)
    (stage_err H (interface_function) (map interface_intrinsic (wit_intrinsics true) ++ (interface_other_name ∷ [])) _ _ _
    (still_err _ _ c.from_residual.ensures.1) (of_interface_function fault_kind s e c.well_formedness.ensures text c.args.function.name.now ty found named _ _ _
    c.interface_function_name_and_abi-abi.ensures c.in_err-lowered.ensures))

pub returns-in-Some : goal.returns-in-Some
returns-in-Some g c = λ text named.
    let s = g.N.NameMangling.scheme c.args.scheme.now in
    let e = name_scope_of c.args.names.now in
    let ty = func_type_value c.args.function.ty.now in
    let found = found_view c.args.found in
    let H = IsKind s e (imported_function (interface_prefix s ++ text) c.args.function.name.now ty) in
    classified_next of_imports fault_kind H interface_unknown (interface_function ∷
    (map interface_intrinsic (wit_intrinsics true) ++ (interface_other_name ∷ []))) _ _
    (import_known fault_kind s e c.well_formedness.ensures text c.args.function.name.now ty found named)
    (classified_some of_imports fault_kind H (interface_function) (map interface_intrinsic (wit_intrinsics true) ++ (interface_other_name ∷ [])) _ _
    (of_interface_function fault_kind s e c.well_formedness.ensures text c.args.function.name.now ty found named _ _ _
    c.interface_function_name_and_abi-abi.ensures (rw c.in-Some.is at c.in_ok-lowered.ensures)) refl)

pub returns-in_err-import-in-None : goal.returns-in_err-import-in-None
returns-in_err-import-in-None g c = λ text named.
    let s = g.N.NameMangling.scheme c.args.scheme.now in
    let e = name_scope_of c.args.names.now in
    let ty = func_type_value c.args.function.ty.now in
    let found = found_view c.args.found in
    let H = IsKind s e (imported_function (interface_prefix s ++ text) c.args.function.name.now ty) in
    classified_next of_imports fault_kind H interface_unknown (interface_function ∷
    (map interface_intrinsic (wit_intrinsics true) ++ (interface_other_name ∷ []))) _ _
    (import_known fault_kind s e c.well_formedness.ensures text c.args.function.name.now ty found named)
    (classified_none of_imports fault_kind H (interface_function) (map interface_intrinsic (wit_intrinsics true) ++ (interface_other_name ∷ [])) _ _ _
    (of_interface_function fault_kind s e c.well_formedness.ensures text c.args.function.name.now ty found named _ _ _
    c.interface_function_name_and_abi-abi.ensures (rw c.in-None.is at c.in_ok-lowered.ensures)) refl
    (stages_err H (map interface_intrinsic (wit_intrinsics true)) (interface_other_name ∷ []) _ _ _
    (still_err _ _ c.from_residual-in_err-import-in-None.ensures.1)
    (of_interface_intrinsics fault_kind s e c.well_formedness.ensures text c.args.function.name.now ty found named _ c.in_err-import-in-None.ensures)))

pub returns-in-Some-2 : goal.returns-in-Some-2
returns-in-Some-2 g c = λ text named.
    let s = g.N.NameMangling.scheme c.args.scheme.now in
    let e = name_scope_of c.args.names.now in
    let ty = func_type_value c.args.function.ty.now in
    let found = found_view c.args.found in
    let H = IsKind s e (imported_function (interface_prefix s ++ text) c.args.function.name.now ty) in
    classified_next of_imports fault_kind H interface_unknown (interface_function ∷
    (map interface_intrinsic (wit_intrinsics true) ++ (interface_other_name ∷ []))) _ _
    (import_known fault_kind s e c.well_formedness.ensures text c.args.function.name.now ty found named)
    (classified_none of_imports fault_kind H (interface_function) (map interface_intrinsic (wit_intrinsics true) ++ (interface_other_name ∷ [])) _ _ _
    (of_interface_function fault_kind s e c.well_formedness.ensures text c.args.function.name.now ty found named _ _ _
    c.interface_function_name_and_abi-abi.ensures (rw c.in-None.is at c.in_ok-lowered.ensures)) refl
    (group_some of_imports fault_kind H (map interface_intrinsic (wit_intrinsics true)) (interface_other_name ∷ []) _ _
    (of_interface_intrinsics fault_kind s e c.well_formedness.ensures text c.args.function.name.now ty found named _
    (rw c.in-Some-2.is at c.in_ok-import-in-None.ensures)) refl))

pub returns : goal.returns
returns g c = λ text named.
    let s = g.N.NameMangling.scheme c.args.scheme.now in
    let e = name_scope_of c.args.names.now in
    let ty = func_type_value c.args.function.ty.now in
    let found = found_view c.args.found in
    let H = IsKind s e (imported_function (interface_prefix s ++ text) c.args.function.name.now ty) in
    classified_next of_imports fault_kind H interface_unknown (interface_function ∷
    (map interface_intrinsic (wit_intrinsics true) ++ (interface_other_name ∷ []))) _ _
    (import_known fault_kind s e c.well_formedness.ensures text c.args.function.name.now ty found named)
    (classified_none of_imports fault_kind H (interface_function) (map interface_intrinsic (wit_intrinsics true) ++ (interface_other_name ∷ [])) _ _ _
    (of_interface_function fault_kind s e c.well_formedness.ensures text c.args.function.name.now ty found named _ _ _
    c.interface_function_name_and_abi-abi.ensures (rw c.in-None.is at c.in_ok-lowered.ensures)) refl
    (group_none of_imports fault_kind H (map interface_intrinsic (wit_intrinsics true)) (interface_other_name ∷ []) _ _ _
    (of_interface_intrinsics fault_kind s e c.well_formedness.ensures text c.args.function.name.now ty found named _
    (rw c.in-None-2.is at c.in_ok-import-in-None.ensures)) refl
    (classified_last of_imports fault_kind H interface_other_name _ MissingFunction missing_function refl refl)))

pub lowered_function-requires : goal.lowered_function-requires
lowered_function-requires g c =
    record {
      index = c.requires.world.0;
      is_world = c.requires.world.1;
      interface_in = λ x is. id_in_range c.args.names.now.resolve.now c.args.found.id x c.requires.interface is;
    }

pub imported_intrinsic-requires : goal.imported_intrinsic-requires
imported_intrinsic-requires g c =
    record {
      index = c.requires.world.0;
      is_world = c.requires.world.1;
      interface_in = λ x is. id_in_range c.args.names.now.resolve.now c.args.found.id x c.requires.interface is;
    }
