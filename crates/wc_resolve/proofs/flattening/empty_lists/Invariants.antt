use Rattle.std.proofs.Common.{◌≡◌, [], replicate}
use Rattle.wc_resolve.specs.Flat.{lists}
use Rattle.wc_resolve.proofs.flattening.empty_lists.Given as goal

abbrev pub invariant-loop : goal.invariant-loop
invariant-loop l = lists l.flats.items ≡ replicate l.counter []
