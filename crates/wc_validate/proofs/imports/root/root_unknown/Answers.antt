use Rattle.std.proofs.Common.{◌∷◌, [], refl, sym, ◌∙◌}
use Rattle.wc_read.specs.Types.{func_type_value}
use Rattle.wc_names.specs.Imports.{IsKind, root_other_item, root_unknown}
use Rattle.wc_names.specs.Meanings.{no_root_import, root_not_function}
use Rattle.wc_names.specs.Mangling.{root_module}
use Rattle.wc_validate.proofs.ClassificationLemmas.{classified_last, classified_next, classified_refused}
use Rattle.wc_validate.specs.declared.name_fault.NameFault.TheVariants.{NoRootImport, RootNotFunction}
use Rattle.wc_validate.specs.Fault.{fault_kind}
use Rattle.wc_validate.specs.NameScope.{imported_function, name_scope_of}
use Rattle.wc_validate.proofs.ImportRootLemmas.{no_other_item, other_item}
use Rattle.wc_validate.specs.Classifications.{of_imports}
use Rattle.wc_validate.proofs.imports.root.root_unknown.Goals as goal

pub returns-then-branch : goal.returns-then-branch
returns-then-branch g c = λ ty.
    classified_refused of_imports fault_kind _ _ RootNotFunction root_not_function refl
    (other_item (g.N.NameMangling.scheme c.args.scheme.now) (name_scope_of c.args.names.now) c.args.name.now (func_type_value ty)
    _ _ c.world_key_name_and_abi-abi.ensures
    (sym c.in_ok-is_imported.ensures ∙ c.if-branch.true))

pub returns : goal.returns
returns g c = λ ty.
    let s = g.N.NameMangling.scheme c.args.scheme.now in
    let e = name_scope_of c.args.names.now in
    let H = IsKind s e (imported_function (root_module s) c.args.name.now (func_type_value ty)) in
    classified_next of_imports fault_kind H root_other_item (root_unknown ∷ []) _ _
    (no_other_item fault_kind s e c.args.name.now (func_type_value ty) _ _ c.world_key_name_and_abi-abi.ensures
    (sym c.in_ok-is_imported.ensures ∙ c.if-branch.false))
    (classified_last of_imports fault_kind H root_unknown _ NoRootImport no_root_import refl (refl, refl))
