use Rattle.std.proofs.Common.{◌≡◌, ◌++◌, map, take}
use Rattle.wc_read.specs.Exports.{export_value}
use Rattle.wc_summary.specs.CoreModules.{label_value}
use Rattle.wc_module_ways.specs.CoreImports.{export_label}
use Rattle.wc_module_ways.proofs.core_imports.push_export_labels.Given as goal

abbrev pub invariant-loop-export : goal.invariant-loop-export
invariant-loop-export l =
    map label_value l.labels.items ≡ map label_value l.fn.labels.items ++ map (export_label l.kind) (map export_value (take l.export-index l.exports))
