use Rattle.wc_read.specs.BodyOperators.{bytes_left}
use Rattle.wc_paths.specs.Private.BodyNames.{items_left}
use Rattle.wc_paths.proofs.BodyNamesLemmas.{IsLeft}
use Rattle.wc_paths.proofs.body_names.put_left.Given as goal

abbrev pub invariant-loop-operator : goal.invariant-loop-operator
invariant-loop-operator l = IsLeft l.fn.names.items l.names.items (items_left l.fn.operators) (items_left l.operators)

abbrev pub decreases-loop-operator : goal.decreases-loop-operator
decreases-loop-operator l = bytes_left l.operators
