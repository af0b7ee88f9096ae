use Rattle.std.proofs.Common.{◌≡◌, true, map, take}
use Rattle.std.specs.List.{list_all}
use Rattle.wc_read.specs.Exports.{ExportValue, export_value}
use Rattle.wc_component_file.specs.Told.{is_shim_name}
use Rattle.wc_component_file.proofs.told.are_shim_names.Given as goal

abbrev pub invariant-loop-export : goal.invariant-loop-export
invariant-loop-export l = list_all (λ (e : ExportValue). is_shim_name e.name) (map export_value (take l.export-index l.exports)) ≡ true
