use Rattle.std.proofs.Common.{List, map}
use Rattle.wc_resolve.specs.Kinds.{ResolveView}
use Rattle.wc_names.specs.Exports.{CoreExport}
use Rattle.wc_validate.specs.Exports.Map.{ExportRecord}
use Rattle.wc_validate.specs.Imports.Map.{required_entry}
use Rattle.wc_validate.specs.Private.ExportedFunctions.{IsExportIndexOf}
use Rattle.wc_validate.proofs.MissingLemmas.{FunctionsPassed}
use Rattle.wc_validate.proofs.explain.functions.first_unexported.Given as goal

abbrev pub invariant-loop-name : goal.invariant-loop-name
invariant-loop-name l =
    (r : ResolveView) (xs : List CoreExport) (recorded : ExportRecord) → IsExportIndexOf l.index.entries xs
    → FunctionsPassed r xs recorded (map required_entry l.functions.entries) (map required_entry l.name-iterator)
