use Rattle.std.proofs.Common.{◌∙◌, sym, subst}
use Rattle.wc_validate.specs.Exports.Record.{AreExportsAdded}
use Rattle.wc_validate.specs.NameScope.{name_scope_of}
use Rattle.wc_validate.specs.Private.Explain.{AreExportsRefusedAt, IsExportStopIn, IsRefusedForExport}
use Rattle.wc_read.specs.Modules.{module_value}
use Rattle.wc_validate.specs.Refused.{IsMemoryRefusal}
use Rattle.wc_validate.proofs.ExplainLemmas.{memory_refused}
use Rattle.wc_validate.proofs.RefusedLemmas.{failed_on}
use Rattle.wc_validate.proofs.validate.recorded_exports.Goals as goal

pub returns-in-Ok-clause-recorded : goal.returns-in-Ok-clause-recorded
returns-in-Ok-clause-recorded c =
    subst (λ z. AreExportsAdded c.args.context.now c.args.module.now z c.in-Ok.names.entries) c.deref.ensures.value c.in-Ok.ensures.recorded

pub returns-in_ok-export_refusal-in-Err-clause-refused : goal.returns-in_ok-export_refusal-in-Err-clause-refused
returns-in_ok-export_refusal-in-Err-clause-refused c =
    let stop = subst (λ z. IsExportStopIn c.args.context.now c.args.module.now z c.in-Err.refused)
    c.deref.ensures.value c.in-Err.ensures.refused in
    let own = subst (λ z. AreExportsRefusedAt c.args.module.now z c.in-Err.refused c.in_ok-export_refusal-in-Err.field-0)
    c.deref-in-Err.ensures.value c.in_ok-export_refusal-in-Err.ensures in
    own (name_scope_of c.args.context.now.names) c.args.context.now.standard.keys stop

pub returns-in_err-export_refusal-in-Err-clause-refused : goal.returns-in_err-export_refusal-in-Err-clause-refused
returns-in_err-export_refusal-in-Err-clause-refused c =
    failed_on IsMemoryRefusal (IsRefusedForExport c.args.context.now c.args.module.now) _
    (memory_refused (name_scope_of c.args.context.now.names) c.args.context.now.standard.keys (module_value c.args.module.now)
    c.args.module.now.exports.items) c.from_residual.ensures.1

pub export_refusal-requires-clause-stopped : goal.export_refusal-requires-clause-stopped
export_refusal-requires-clause-stopped c =
    let stop = subst (λ z. IsExportStopIn c.args.context.now c.args.module.now z c.in-Err.refused)
    (c.deref.ensures.value ∙ sym c.deref-in-Err.ensures.value) c.in-Err.ensures.refused in
    (name_scope_of c.args.context.now.names, c.args.context.now.standard.keys, stop)
