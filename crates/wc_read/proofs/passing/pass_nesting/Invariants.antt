use Rattle.std.proofs.Common.{◌≡◌, ◌≢◌, [], Bool, ◌≤◌, length}
use Rattle.wc_read.specs.Blocks.{open_blocks}
use Rattle.wc_read.specs.Passing.{AreOperatorsPassed}
use Rattle.wc_read.proofs.passing.pass_nesting.Given as goal

abbrev pub invariant-loop-size : goal.invariant-loop-size
invariant-loop-size l =
    ((memory : Bool) → AreOperatorsPassed memory (open_blocks l.initial.blocks) l.input (open_blocks l.blocks) l.rest) × (open_blocks l.blocks ≢ [])
    × (length l.rest ≤ length l.input) × (length l.rest ≡ length l.input → open_blocks l.blocks ≡ open_blocks l.initial.blocks)

abbrev pub decreases-loop-size : goal.decreases-loop-size
decreases-loop-size l = length l.rest
