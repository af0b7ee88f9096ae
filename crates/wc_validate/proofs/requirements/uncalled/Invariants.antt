use Rattle.std.proofs.Common.{List, ℕ, IsTrue, map}
use Rattle.wc_names.specs.ExportViews.{ExportView}
use Rattle.wc_validate.specs.Exports.Map.{export_entry}
use Rattle.wc_validate.specs.Requirements.{is_called_back}
use Rattle.wc_validate.proofs.MissingLemmas.{Passed}
use Rattle.wc_validate.proofs.requirements.uncalled.Given as goal

abbrev pub invariant-loop-name : goal.invariant-loop-name
invariant-loop-name l =
    Passed (λ (e : List ℕ × ExportView). IsTrue (is_called_back (map export_entry l.names.entries) e)) (map export_entry l.names.entries)
    (map export_entry l.name-iterator)
