use Rattle.std.proofs.Common.{◌<◌, ap, map}
use Rattle.wc_read.specs.Exports.{ExportValue, export_value}
use Rattle.wc_read.specs.Modules.{count_of, module_value}
use Rattle.wc_resolve.proofs.ViewedLemmas.{all_unviewed}
use Rattle.wc_validate.specs.Exports.Map.{export_entry}
use Rattle.wc_validate.specs.NameScope.{name_scope_of}
use Rattle.wc_validate.proofs.ExplainLemmas.{exports_stop}
use Rattle.wc_validate.proofs.ExportRecordLemmas.{exports_end, exports_fresh, exports_next, exports_start}
use Rattle.wc_validate.proofs.exports.record.record_exports.Goals as goal

pub loop-index-init : goal.loop-index-init
loop-index-init c =
    exports_start (name_scope_of c.args.context.now.names) c.args.context.now.standard.keys (module_value c.args.module.now) c.args.exports.now
    _ (ap (map export_entry) c.with_hasher-names.ensures.empty) c.requires.distinct

pub exported_type-ty-requires-clause-item : goal.exported_type-ty-requires-clause-item
exported_type-ty-requires-clause-item c =
    all_unviewed export_value (λ (x : ExportValue). x.index < count_of (module_value c.args.module.now) x.kind)
    c.args.exports.now c.requires.items c.loop-index.index _ c.loop-index-test.true

pub record_export-requires-clause-fresh : goal.record_export-requires-clause-fresh
record_export-requires-clause-fresh c =
    exports_fresh (name_scope_of c.args.context.now.names) c.args.context.now.standard.keys (module_value c.args.module.now) c.args.exports.now
    c.loop-index.index _ (map export_entry c.loop-index.names.entries) c.loop-index-test.true c.loop-index.invariant

pub returns-in-Err-clause-refused : goal.returns-in-Err-clause-refused
returns-in-Err-clause-refused c =
    exports_stop (name_scope_of c.args.context.now.names) c.args.context.now.standard.keys (module_value c.args.module.now) c.args.exports.now
    c.loop-index.index _ _ c.loop-index-test.true c.exported_type-ty.ensures (map export_entry c.loop-index.names.entries) c.loop-index.invariant
    c.in-Err.fault c.in-Err.ensures.fault

pub loop-index-preserved : goal.loop-index-preserved
loop-index-preserved c =
    exports_next (name_scope_of c.args.context.now.names) c.args.context.now.standard.keys (module_value c.args.module.now) c.args.exports.now
    c.loop-index.index _ (map export_entry c.loop-index.names.entries) c.loop-index-test.true c.loop-index.invariant _
    (map export_entry c.record_export.new.names.entries) c.exported_type-ty.ensures c.in_default.ensures.recorded

pub returns-clause-recorded : goal.returns-clause-recorded
returns-clause-recorded c =
    exports_end (name_scope_of c.args.context.now.names) c.args.context.now.standard.keys (module_value c.args.module.now) c.args.exports.now
    c.loop-index.index (map export_entry c.loop-index.names.entries) c.loop-index-test.false c.loop-index.invariant
