use Rattle.std.proofs.Common.{◌≡◌}
use Rattle.wc_read.specs.Causes.{init_has_types}
use Rattle.wc_read.specs.InitOperators.{init_bytes_left, init_left}
use Rattle.wc_read.proofs.CausesLemmas.{nulls_left}
use Rattle.wc_read.proofs.init_types.init_has_types.Given as goal

abbrev pub invariant-loop-operator : goal.invariant-loop-operator
invariant-loop-operator l = nulls_left l.types l.all (init_left l.operators) ≡ init_has_types l.types l.fn.init

abbrev pub decreases-loop-operator : goal.decreases-loop-operator
decreases-loop-operator l = init_bytes_left l.operators
