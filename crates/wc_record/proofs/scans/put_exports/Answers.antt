use Rattle.std.proofs.lemmas.List.{drop_all}
use Rattle.wc_read.specs.Exports.{export_value}
use Rattle.wc_read.specs.Modules.{module_value}
use Rattle.wc_record.specs.Scans.{export_scan_json}
use Rattle.wc_record.proofs.ShapeLemmas.{rest_begun, rest_done}
use Rattle.wc_record.proofs.scans.put_exports.Goals as goal

pub loop-export-init : goal.loop-export-init
loop-export-init c = rest_begun _ c.in_ok-begin_array.ensures

pub returns : goal.returns
returns c =
    rest_done _ export_value (export_scan_json (module_value c.args.«module».now)) _ _ (drop_all c.loop-export.export-index c.args.exports.now c.loop-export-test.false)
    c.loop-export.invariant c.end_array.ensures
