use Rattle.wc_validate.specs.Exports.Contexts.{core_export}
use Rattle.wc_validate.specs.Private.Externs.{extern_view}
use Rattle.wc_validate.specs.Private.Explain.{IsRefusedExport}
use Rattle.wc_validate.specs.NameScope.{name_scope_of}
use Rattle.wc_validate.proofs.ExportRecordLemmas.{entry_memory, entry_none, entry_some, recorded_new, recorded_nothing}
use Rattle.wc_validate.proofs.RefusedLemmas.{passed_on}
use Rattle.wc_validate.proofs.exports.record.record_export.Goals as goal

pub returns-in_err-export-clause-fault : goal.returns-in_err-export-clause-fault
returns-in_err-export-clause-fault c =
    passed_on (IsRefusedExport c.args.context.now c.args.name.now c.args.ty) _ _ c.from_residual.ensures.1 c.in_err-export.ensures

pub returns-in_default-clause-recorded : goal.returns-in_default-clause-recorded
returns-in_default-clause-recorded c =
    recorded_nothing (name_scope_of c.args.context.now.names) c.args.context.now.standard.keys (core_export c.args.name.now (extern_view c.args.ty)) _
    (entry_none (name_scope_of c.args.context.now.names) c.args.context.now.standard.keys (core_export c.args.name.now (extern_view c.args.ty))
    (rw c.in_default.is at c.in_ok-export.ensures))

pub returns-clause-recorded : goal.returns-clause-recorded
returns-clause-recorded c =
    recorded_new (name_scope_of c.args.context.now.names) c.args.context.now.standard.keys (core_export c.args.name.now (extern_view c.args.ty))
    c.args.names.now.entries c.insert.new.self.entries c.in_ok-from_str.field-0 c.in-Some.export
    c.in_ok-insert.ensures.entries c.in_ok-from_str.ensures.ok c.requires.fresh
    (entry_some (name_scope_of c.args.context.now.names) c.args.context.now.standard.keys (core_export c.args.name.now (extern_view c.args.ty)) c.in-Some.export
    (rw c.in-Some.is at c.in_ok-export.ensures))

pub returns-in_err-from_str-clause-fault : goal.returns-in_err-from_str-clause-fault
returns-in_err-from_str-clause-fault c =
    passed_on (IsRefusedExport c.args.context.now c.args.name.now c.args.ty) _ _ c.from_residual-in_err-from_str.ensures.1
    (entry_memory (name_scope_of c.args.context.now.names) c.args.context.now.standard.keys (core_export c.args.name.now (extern_view c.args.ty)))

pub returns-in_err-insert-clause-fault : goal.returns-in_err-insert-clause-fault
returns-in_err-insert-clause-fault c =
    passed_on (IsRefusedExport c.args.context.now c.args.name.now c.args.ty) _ _ c.from_residual-in_err-insert.ensures.1
    (entry_memory (name_scope_of c.args.context.now.names) c.args.context.now.standard.keys (core_export c.args.name.now (extern_view c.args.ty)))
