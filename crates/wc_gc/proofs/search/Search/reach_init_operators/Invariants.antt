use Rattle.wc_read.specs.InitOperators.{init_bytes_left, init_left}
use Rattle.wc_read.specs.Decoded.{decoded_module}
use Rattle.wc_gc.proofs.ReachLemmas.{IsInitFound}
use Rattle.wc_gc.proofs.search.Search.reach_init_operators.Given as goal

abbrev pub invariant-loop-operator : goal.invariant-loop-operator
invariant-loop-operator g l = IsInitFound g.L.LiveSet.has (decoded_module l.adapter) (init_left l.fn.operators) l.fn.self l.self (init_left l.operators)

abbrev pub decreases-loop-operator : goal.decreases-loop-operator
decreases-loop-operator g l = init_bytes_left l.operators
