use Rattle.std.proofs.Common.{map}
use Rattle.wc_resolve.specs.Live.{listing_of}
use Rattle.wc_resolve.specs.Roots.{id_index}
use Rattle.wc_resolve.proofs.BesideLemmas.{IsWalkBeside}
use Rattle.wc_resolve.proofs.ListingLemmas.{walk_length}
use Rattle.wc_resolve.proofs.live.add.Given as goal

abbrev pub invariant-steps : goal.invariant-steps
invariant-steps g l = IsWalkBeside l.resolve.types (g.K.KnownTypes.known_of l.known) l.fn.live (map id_index l.fn.roots.items) l.live l.steps.items

abbrev pub decreases-steps : goal.decreases-steps
decreases-steps g l = walk_length (listing_of l.resolve.types) l.steps.items
