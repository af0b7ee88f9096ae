use Rattle.std.proofs.Common.{List, map}
use Rattle.wc_resolve.specs.Views.{key_view, world_entry}
use Rattle.wc_names.specs.Exports.{CoreExport}
use Rattle.wc_validate.specs.Exports.Map.{ExportRecord}
use Rattle.wc_validate.specs.Private.ExportedFunctions.{AreNamesOf}
use Rattle.wc_validate.proofs.MissingLemmas.{KeysPassed}
use Rattle.wc_validate.proofs.explain.keys.first_lacking.Given as goal

abbrev pub invariant-loop-key : goal.invariant-loop-key
invariant-loop-key l =
    (xs : List CoreExport) (recorded : ExportRecord) → AreNamesOf l.functions.keys recorded
    → KeysPassed l.resolve xs recorded (map world_entry l.exports.entries) (map key_view l.keys.keys) (map key_view l.key-iterator)
