use Rattle.std.proofs.Common.{◌≡◌, map, take}
use Rattle.wc_read.specs.Exports.{ExportValue, export_value}
use Rattle.wc_why.specs.Texts.{text_of}
use Rattle.wc_module_ways.proofs.core_parts.export_names.Given as goal

abbrev pub invariant-loop-export : goal.invariant-loop-export
invariant-loop-export l =
    map text_of l.names.items ≡ map (λ (e : ExportValue). e.name) (map export_value (take l.export-index l.exports))
