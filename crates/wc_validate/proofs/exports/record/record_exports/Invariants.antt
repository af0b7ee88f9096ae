use Rattle.std.proofs.Common.{map}
use Rattle.wc_read.specs.Modules.{module_value}
use Rattle.wc_validate.specs.Exports.Map.{export_entry}
use Rattle.wc_validate.specs.NameScope.{name_scope_of}
use Rattle.wc_validate.proofs.ExportRecordLemmas.{ExportsPassed}
use Rattle.wc_validate.proofs.exports.record.record_exports.Given as goal

abbrev pub invariant-loop-index : goal.invariant-loop-index
invariant-loop-index l =
    ExportsPassed (name_scope_of l.context.names) l.context.standard.keys (module_value l.«module») l.exports l.index (map export_entry l.names.entries)
