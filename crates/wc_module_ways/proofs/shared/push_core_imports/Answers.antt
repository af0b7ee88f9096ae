use Rattle.std.proofs.Common.{◌<◌, length, arith}
use Rattle.wc_read.specs.Imports.{import_value, import_values}
use Rattle.wc_module_ways.specs.Modules.{is_of_core}
use Rattle.wc_import_paths.proofs.PickedLemmas.{kept_more}
use Rattle.wc_module_ways.proofs.shared.push_core_imports.Goals as goal

pub loop-import-preserved : goal.loop-import-preserved
loop-import-preserved c given names =
    let within : c.loop-import.import-index < length c.args.imports.now = omega arith in
    let put = rw (c.is_of_core.ensures given names) at c.in_ok-push_if.ensures in
    kept_more import_value (is_of_core given c.args.is_library) c.args.imports.now c.loop-import.import-index _ (import_values c.args.found.now.items)
    (import_values c.loop-import.found.items) (import_values c.push_if.new.found.items) within (c.loop-import.invariant given names) put
