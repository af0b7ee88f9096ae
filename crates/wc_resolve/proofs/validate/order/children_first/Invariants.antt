use Rattle.std.proofs.Common.{◌+◌, length, map}
use Rattle.wc_resolve.specs.Views.{type_view}
use Rattle.wc_resolve.specs.Kinds.{children}
use Rattle.wc_resolve.proofs.SearchLemmas.{IsWalk, weight}
use Rattle.wc_resolve.proofs.validate.order.children_first.Given as goal

abbrev pub invariant-steps : goal.invariant-steps
invariant-steps l = IsWalk (children (map type_view l.types)) (length l.types) l.progress.items l.steps.items l.order.items

abbrev pub decreases-steps : goal.decreases-steps
decreases-steps l = weight (children (map type_view l.types)) 0 l.progress.items + length l.steps.items
