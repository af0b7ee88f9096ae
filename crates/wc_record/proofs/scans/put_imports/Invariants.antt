use Rattle.std.proofs.Common.{drop, map}
use Rattle.wc_read.specs.Imports.{import_value}
use Rattle.wc_read.specs.Types.{func_type_value}
use Rattle.wc_record.specs.Scans.{import_scan_json}
use Rattle.wc_record.proofs.ShapeLemmas.{PutsRest}
use Rattle.wc_record.proofs.scans.put_imports.Given as goal

abbrev pub invariant-loop-import : goal.invariant-loop-import
invariant-loop-import l =
    let json = (import_scan_json (map func_type_value l.types)) in
    PutsRest l.fn.out l.out (map json (map import_value l.imports)) (map json (map import_value (drop l.import-index l.imports)))
