use Rattle.std.proofs.Common.{◌++◌, sym, ap, ◌∙◌}
use Rattle.std.proofs.lemmas.List.{append_cancel_left}
use Rattle.wc_read.specs.Types.{func_type_value}
use Rattle.wc_names.specs.Mangling.{export_prefix, root_module}
use Rattle.wc_validate.proofs.ClassificationLemmas.{classified_nothing}
use Rattle.wc_validate.specs.Fault.{fault_kind}
use Rattle.wc_validate.specs.NameScope.{name_scope_of}
use Rattle.wc_validate.proofs.BuiltinLemmas.{equal, unequal}
use Rattle.wc_validate.proofs.ImportSchemeLemmas.{begins, begins_not, no_export_root, of_export_root}
use Rattle.wc_validate.specs.Classifications.{of_imports}
use Rattle.wc_validate.proofs.imports.scheme.export_root.Goals as goal

pub returns-in_default : goal.returns-in_default
returns-in_default g c =
    let s = g.N.NameMangling.scheme c.args.scheme.now in
    classified_nothing of_imports fault_kind _ _
    (no_export_root fault_kind s (name_scope_of c.args.names.now) c.args.function.name.now (func_type_value c.args.function.ty.now)
    c.args.function.module_name.now
    (begins_not _ _ (export_prefix s) c.import_exported_intrinsic_prefix.ensures c.in_default.ensures.found (root_module s)))

pub returns-then-ne : goal.returns-then-ne
returns-then-ne g c =
    let s = g.N.NameMangling.scheme c.args.scheme.now in
    let is = begins _ _ (export_prefix s) c.in-Some.rest.now c.import_exported_intrinsic_prefix.ensures c.in-Some.ensures.found in
    classified_nothing of_imports fault_kind _ _
    (no_export_root fault_kind s (name_scope_of c.args.names.now) c.args.function.name.now (func_type_value c.args.function.ty.now)
    c.args.function.module_name.now
    (λ at_root. unequal c.in-Some.rest.now c.import_root.result.now (sym c.if-ne.ensures)
    (append_cancel_left (export_prefix s) c.in-Some.rest.now (root_module s) (sym is ∙ at_root) ∙ sym c.import_root.ensures)))

pub returns : goal.returns
returns g c =
    let s = g.N.NameMangling.scheme c.args.scheme.now in
    let is = begins _ _ (export_prefix s) c.in-Some.rest.now c.import_exported_intrinsic_prefix.ensures c.in-Some.ensures.found in
    of_export_root fault_kind s (name_scope_of c.args.names.now) c.args.function.name.now (func_type_value c.args.function.ty.now)
    c.args.function.module_name.now _
    (is ∙ ap (λ z. export_prefix s ++ z) (equal c.in-Some.rest.now c.import_root.result.now (sym c.if-ne.ensures) ∙ c.import_root.ensures))
    c.exported_intrinsic.ensures
