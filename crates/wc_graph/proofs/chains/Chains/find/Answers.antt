use Rattle.std.proofs.Common.{Some, arith}
use Rattle.std.proofs.lemmas.Option.{slice_get_within}
use Rattle.wc_graph.proofs.chains.Chains.find.Goals as goal

pub places-requires : goal.places-requires
places-requires g c = λ k d h. let b = c.in_ok-tree.ensures.there k d h in let e = c.len.ensures in omega (arith, b, e)

pub invariant_of-result : goal.invariant_of-result
invariant_of-result g c = record { within = λ x k e. slice_get_within c.in_ok-tree.tree.order.items k x (c.in_ok-places.ensures.at x (Some k) e) }
