use Rattle.std.proofs.Common.{◌≡◌, false, map, take}
use Rattle.wc_read.specs.Exports.{export_value}
use Rattle.wc_module_ways.specs.Required.{has_interface_export}
use Rattle.wc_module_ways.proofs.required.has_interface_export.Given as goal

abbrev pub invariant-loop-export : goal.invariant-loop-export
invariant-loop-export l = has_interface_export (map export_value (take l.export-index l.exports)) ≡ false
