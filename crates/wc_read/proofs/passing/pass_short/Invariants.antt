use Rattle.std.proofs.Common.{◌≢◌, List, [], Bool, length}
use Rattle.wc_read.specs.Passing.{AreOperatorsPassed}
use Rattle.wc_read.proofs.passing.pass_short.Given as goal

abbrev pub invariant-loop-size : goal.invariant-loop-size
invariant-loop-size l = (memory : Bool) (blocks : List Bool) → blocks ≢ [] → AreOperatorsPassed memory blocks l.input blocks l.rest

abbrev pub decreases-loop-size : goal.decreases-loop-size
decreases-loop-size l = length l.rest
