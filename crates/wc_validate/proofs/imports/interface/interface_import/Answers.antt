use Rattle.std.proofs.Common.{◌++◌, inl, refl, ap, ◌∙◌}
use Rattle.wc_read.specs.Types.{func_type_value}
use Rattle.wc_names.specs.Meanings.{bad_syntax}
use Rattle.wc_names.specs.Mangling.{interface_prefix, export_prefix}
use Rattle.wc_validate.proofs.ClassificationLemmas.{classified_refused}
use Rattle.wc_validate.specs.declared.name_fault.NameFault.TheVariants.{BadSyntax}
use Rattle.wc_validate.specs.Fault.{fault_kind}
use Rattle.wc_validate.specs.NameScope.{lookup_name_scope}
use Rattle.wc_validate.proofs.ImportSchemeLemmas.{begins, begins_not, of_export_module, of_import_module}
use Rattle.wc_validate.proofs.FoundLemmas.{no_export}
use Rattle.wc_validate.specs.Classifications.{of_imports}
use Rattle.wc_validate.proofs.imports.interface.interface_import.Goals as goal

pub returns-in_default : goal.returns-in_default
returns-in_default g c =
    classified_refused of_imports fault_kind _ _ BadSyntax bad_syntax refl (inl (begins_not _ _ _ c.import_non_root_prefix.ensures c.in_default.ensures.found, refl))

pub returns-in-Some-strip_prefix : goal.returns-in-Some-strip_prefix
returns-in-Some-strip_prefix g c =
    let s = g.N.NameMangling.scheme c.args.scheme.now in
    let export = c.in-Some-strip_prefix.export.now in
    let text = c.in-Some.text.now in
    of_export_module fault_kind s (lookup_name_scope c.args.lookup) c.args.function.name.now (func_type_value c.args.function.ty.now)
    c.args.function.module_name.now export _
    (begins c.args.function.module_name.now _ (interface_prefix s) text c.import_non_root_prefix.ensures c.in-Some.ensures.found
    ∙ ap (λ z. interface_prefix s ++ z) (begins text _ (export_prefix s) export c.import_exported_intrinsic_prefix.ensures c.in-Some-strip_prefix.ensures.found))
    c.exported_interface.ensures

pub returns-in-None : goal.returns-in-None
returns-in-None g c =
    let s = g.N.NameMangling.scheme c.args.scheme.now in
    let e = lookup_name_scope c.args.lookup in
    let ty = func_type_value c.args.function.ty.now in
    let text = c.in-Some.text.now in
    of_import_module fault_kind s e c.args.function.name.now ty c.args.function.module_name.now text _
    (begins c.args.function.module_name.now _ (interface_prefix s) text c.import_non_root_prefix.ensures c.in-Some.ensures.found)
    (no_export s e text c.args.function.name.now ty (begins_not text _ (export_prefix s) c.import_exported_intrinsic_prefix.ensures c.in-None.ensures.found))
    c.imported_interface.ensures
