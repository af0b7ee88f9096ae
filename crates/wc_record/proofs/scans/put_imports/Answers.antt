use Rattle.std.proofs.Common.{map}
use Rattle.std.proofs.lemmas.List.{drop_all}
use Rattle.wc_read.specs.Imports.{import_value}
use Rattle.wc_read.specs.Types.{func_type_value}
use Rattle.wc_record.specs.Scans.{import_scan_json}
use Rattle.wc_record.proofs.ShapeLemmas.{rest_begun, rest_done}
use Rattle.wc_record.proofs.scans.put_imports.Goals as goal

pub loop-import-init : goal.loop-import-init
loop-import-init c = rest_begun _ c.in_ok-begin_array.ensures

pub returns : goal.returns
returns c =
    rest_done _ import_value (import_scan_json (map func_type_value c.args.types.now)) _ _ (drop_all c.loop-import.import-index c.args.imports.now c.loop-import-test.false)
    c.loop-import.invariant c.end_array.ensures
