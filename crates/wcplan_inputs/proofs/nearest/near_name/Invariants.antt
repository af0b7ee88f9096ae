use Rattle.std.proofs.Common.{◌≡◌}
use Rattle.wcplan_inputs.proofs.NearestLemmas.{names_of}
use Rattle.wcplan_inputs.specs.Nearest.{first_near}
use Rattle.wcplan_inputs.proofs.nearest.near_name.Given as goal

abbrev pub invariant-loop-function : goal.invariant-loop-function
invariant-loop-function l = first_near l.name (names_of l.function-iterator) ≡ first_near l.name (names_of l.interface.functions.entries)
