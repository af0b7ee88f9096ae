use Rattle.std.proofs.Common.{map}
use Rattle.std.specs.List.{flat_map}
use Rattle.wc_resolve.specs.Live.{listing_of}
use Rattle.wc_resolve.specs.Roots.{id_index}
use Rattle.wc_resolve.specs.Futures.{futures_of}
use Rattle.wc_resolve.proofs.ListingLemmas.{walk_length}
use Rattle.wc_resolve.proofs.FutureWalkLemmas.{IsFutureWalk}
use Rattle.wc_resolve.proofs.futures.list.Given as goal

abbrev pub invariant-steps : goal.invariant-steps
invariant-steps l = IsFutureWalk l.resolve.types (flat_map (futures_of l.resolve.types) (map id_index l.fn.roots.items)) (map id_index l.found.items) l.steps.items

abbrev pub decreases-steps : goal.decreases-steps
decreases-steps l = walk_length (listing_of l.resolve.types) l.steps.items
