use Rattle.wc_read.specs.InitOperators.{init_bytes_left, init_left}
use Rattle.wc_gc.specs.NewIndices.{new_of}
use Rattle.wc_gc.proofs.RewriteLemmas.{IsWritten}
use Rattle.wc_gc.proofs.rewrite.append_init_operators.Given as goal

abbrev pub invariant-loop-operator : goal.invariant-loop-operator
invariant-loop-operator l = IsWritten (new_of l.new) l.fn.out.items (init_left l.fn.operators) l.out.items (init_left l.operators)

abbrev pub decreases-loop-operator : goal.decreases-loop-operator
decreases-loop-operator l = init_bytes_left l.operators
