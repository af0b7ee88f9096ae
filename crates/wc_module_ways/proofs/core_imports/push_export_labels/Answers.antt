use Rattle.std.proofs.Common.{◌<◌, arith, length}
use Rattle.wc_read.specs.Exports.{export_value}
use Rattle.wc_summary.specs.CoreModules.{label_value}
use Rattle.wc_module_ways.specs.CoreImports.{export_label}
use Rattle.wc_module_ways.proofs.MatchedLemmas.{mapped_more}
use Rattle.wc_module_ways.proofs.core_imports.push_export_labels.Goals as goal

pub loop-export-preserved : goal.loop-export-preserved
loop-export-preserved c =
    let within : c.loop-export.export-index < length c.args.exports.now = omega arith in
    mapped_more export_value label_value (export_label c.args.kind) c.args.exports.now c.loop-export.export-index _ _ c.args.labels.now.items
    c.loop-export.labels.items c.push.new.self.items within c.loop-export.invariant c.export_label.ensures c.in_ok-push.ensures.items
