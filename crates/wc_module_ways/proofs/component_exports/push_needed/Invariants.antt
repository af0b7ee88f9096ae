use Rattle.std.proofs.Common.{◌≡◌, ◌++◌, map, take}
use Rattle.wc_read.specs.Exports.{export_value}
use Rattle.wc_read.specs.Modules.{module_value}
use Rattle.wc_why.specs.Texts.{text_of}
use Rattle.wc_module_ways.specs.ComponentExports.{needed_names}
use Rattle.wc_module_ways.proofs.component_exports.push_needed.Given as goal

abbrev pub invariant-loop-export : goal.invariant-loop-export
invariant-loop-export l =
    map text_of l.names.items ≡ map text_of l.fn.names.items ++ needed_names (module_value l.code) (map export_value (take l.export-index l.exports))
