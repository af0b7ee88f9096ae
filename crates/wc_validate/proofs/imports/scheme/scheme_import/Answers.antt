use Rattle.std.proofs.Common.{inl, inr, refl, sym}
use Rattle.wc_read.specs.Types.{func_type_value}
use Rattle.wc_names.specs.Mangling.{standard, legacy}
use Rattle.wc_validate.specs.NameScope.{name_scope_of}
use Rattle.wc_validate.proofs.ImportSchemeLemmas.{scheme_is}
use Rattle.wc_validate.proofs.ImportClassifyLemmas.{decided_by}
use Rattle.wc_validate.proofs.imports.scheme.scheme_import.Goals as goal

pub returns-in-Some : goal.returns-in-Some
returns-in-Some c =
    decided_by (name_scope_of c.args.names.now) c.args.function.module_name.now c.args.function.name.now (func_type_value c.args.function.ty.now)
    standard c.in-Some.rest.now _
    (inl (c.in-Some.ensures.found, refl)) c.import_by.ensures

pub returns-then-names : goal.returns-then-names
returns-then-names c =
    decided_by (name_scope_of c.args.names.now) c.args.function.module_name.now c.args.function.name.now (func_type_value c.args.function.ty.now)
    standard c.args.function.module_name.now _
    (inr (c.in_default.ensures.found, refl, sym (scheme_is c.args.names.now.task_hook.now c.args.names.now.reject_legacy_names _ c.if-names.true)))
    c.import_by-then-names.ensures

pub returns : goal.returns
returns c =
    decided_by (name_scope_of c.args.names.now) c.args.function.module_name.now c.args.function.name.now (func_type_value c.args.function.ty.now)
    (legacy c.args.names.now.task_hook.now) c.args.function.module_name.now _
    (inr (c.in_default.ensures.found, refl, sym (scheme_is c.args.names.now.task_hook.now c.args.names.now.reject_legacy_names _ c.if-names.false)))
    c.import_by-2.ensures
