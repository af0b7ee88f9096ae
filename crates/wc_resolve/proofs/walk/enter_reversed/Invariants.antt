use Rattle.std.proofs.Common.{◌≡◌, ◌≤◌, ◌++◌, map, reverse, drop, length}
use Rattle.wc_resolve.specs.declared.walk.TypeStep.TheVariants.{Enter}
use Rattle.wc_resolve.proofs.walk.enter_reversed.Given as goal

abbrev pub invariant-loop-left : goal.invariant-loop-left
invariant-loop-left l = (l.left ≤ length l.ids) × (l.steps.items ≡ l.fn.steps.items ++ map Enter (reverse (drop l.left l.ids)))

abbrev pub decreases-loop-left : goal.decreases-loop-left
decreases-loop-left l = l.left
