use Rattle.wc_calls.proofs.RequiredFunctionLemmas.{HavePassed}
use Rattle.wc_calls.proofs.required_functions.types_by_name.Given as goal

abbrev pub invariant-loop-function : goal.invariant-loop-function
invariant-loop-function l = HavePassed l.types.entries l.functions l.function-index
