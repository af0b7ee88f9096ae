use Rattle.std.proofs.Common.{drop, map}
use Rattle.wc_read.specs.Exports.{export_value}
use Rattle.wc_read.specs.Modules.{module_value}
use Rattle.wc_record.specs.Scans.{export_scan_json}
use Rattle.wc_record.proofs.ShapeLemmas.{PutsRest}
use Rattle.wc_record.proofs.scans.put_exports.Given as goal

abbrev pub invariant-loop-export : goal.invariant-loop-export
invariant-loop-export l =
    let json = (export_scan_json (module_value l.«module»)) in
    PutsRest l.fn.out l.out (map json (map export_value l.exports)) (map json (map export_value (drop l.export-index l.exports)))
