use Rattle.std.proofs.Common.{inl, inr, refl}
use Rattle.wc_names.specs.Mangling.{legacy, standard}
use Rattle.wc_validate.specs.Private.Externs.{extern_view}
use Rattle.wc_validate.specs.NameScope.{name_scope_of}
use Rattle.wc_validate.proofs.ExportKindLemmas.{by_any_type, by_none, by_scheme_read, legacy_rejected}
use Rattle.wc_validate.proofs.exports.classify.classify_export.Goals as goal

pub returns-in-Some : goal.returns-in-Some
returns-in-Some c =
    by_any_type (name_scope_of c.args.context.now.names) c.args.context.now.standard.keys c.args.name.now (extern_view c.args.ty)
    c.in-Some.export c.in-Some.ensures.0 c.in-Some.ensures.1 c.in-Some.ensures.2

pub returns-in-Some-strip_prefix : goal.returns-in-Some-strip_prefix
returns-in-Some-strip_prefix c =
    by_scheme_read (name_scope_of c.args.context.now.names) c.args.context.now.standard.keys c.args.name.now (extern_view c.args.ty)
    c.in_default.ensures standard c.in-Some-strip_prefix.rest.now _ (inl (c.in-Some-strip_prefix.ensures.found, refl)) c.export_by.ensures

pub returns-then-names : goal.returns-then-names
returns-then-names c =
    by_none (name_scope_of c.args.context.now.names) c.args.context.now.standard.keys c.args.name.now (extern_view c.args.ty) c.in_default.ensures
    (legacy_rejected (name_scope_of c.args.context.now.names) c.args.name.now c.in_default-strip_prefix.ensures.found c.if-names.true)

pub returns : goal.returns
returns c =
    by_scheme_read (name_scope_of c.args.context.now.names) c.args.context.now.standard.keys c.args.name.now (extern_view c.args.ty) c.in_default.ensures
    (legacy c.args.context.now.names.task_hook.now) c.args.name.now _
    (inr (c.in_default-strip_prefix.ensures.found, c.if-names.false, refl, refl)) (rw c.requires.has_keys at c.export_by-2.ensures)
