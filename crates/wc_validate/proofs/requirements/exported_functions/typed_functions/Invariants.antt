use Rattle.std.proofs.Common.{map, take}
use Rattle.std.specs.List.{filter_map}
use Rattle.wc_read.specs.Exports.{export_value}
use Rattle.wc_read.specs.Modules.{module_value}
use Rattle.wc_validate.specs.Private.Imports.Arguments.{IsIndexOf}
use Rattle.wc_validate.specs.Private.ExportedFunctions.{typed_entry}
use Rattle.wc_validate.specs.Exports.Record.{core_exports}
use Rattle.wc_validate.specs.Requirements.{typed_name}
use Rattle.wc_validate.proofs.requirements.exported_functions.typed_functions.Given as goal

abbrev pub invariant-loop-export : goal.invariant-loop-export
invariant-loop-export l =
    IsIndexOf (map typed_entry l.index.entries) (filter_map typed_name
    (core_exports (module_value l.«module») (map export_value (take l.export-index l.exports))))
