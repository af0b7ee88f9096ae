use Rattle.std.proofs.Common.{List, ℕ, Some, Contains, map}
use Rattle.wc_resolve.specs.Views.{FunctionView, function_entry}
use Rattle.wc_validate.specs.Exports.Map.{ExportRecord}
use Rattle.wc_validate.specs.Private.ExportedFunctions.{AreNamesOf}
use Rattle.wc_validate.specs.Requirements.{function_names, functions_of}
use Rattle.wc_validate.proofs.MissingLemmas.{Passed}
use Rattle.wc_validate.proofs.explain.keys.lacking_function.Given as goal

abbrev pub invariant-loop-name : goal.invariant-loop-name
invariant-loop-name l =
    (recorded : ExportRecord) → AreNamesOf l.functions.keys recorded
    → Passed (λ (f : List ℕ × FunctionView). Contains (function_names recorded) (Some l.id.0, f.0)) (functions_of l.resolve l.id.0)
    (map function_entry l.name-iterator)
