use Rattle.std.proofs.Common.{◌≡◌, ◌++◌, map, take}
use Rattle.wc_resolve.specs.declared.validate.order.IndexStep.TheVariants.{Enter}
use Rattle.wc_resolve.proofs.validate.order.enter_children.Given as goal

abbrev pub invariant-loop-child : goal.invariant-loop-child
invariant-loop-child l = l.steps.items ≡ l.initial.steps.items ++ map Enter (take l.child-index l.child-items)
