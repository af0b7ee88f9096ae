use Rattle.std.proofs.Common.{◌≡◌, ◌++◌, map, take}
use Rattle.wc_resolve.specs.declared.walk.TypeStep.TheVariants.{Enter}
use Rattle.wc_resolve.proofs.walk.enter_each.Given as goal

abbrev pub invariant-loop-id : goal.invariant-loop-id
invariant-loop-id l = l.steps.items ≡ l.fn.steps.items ++ map Enter (take l.id-index l.ids)
