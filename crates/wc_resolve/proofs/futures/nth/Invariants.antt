use Rattle.std.proofs.Common.{◌≡◌, ◌<◌, ◌^◌, length}
use Rattle.std.specs.List.{slice_get}
use Rattle.wc_resolve.specs.Futures.{futures_of}
use Rattle.wc_resolve.specs.Live.{listing_of}
use Rattle.wc_resolve.proofs.futures.nth.Given as goal

abbrev pub invariant-parts : goal.invariant-parts
invariant-parts l = record {
  there : l.found.0 < length l.resolve.types;
  small : l.left < 2 ^ 32;
  more : l.left < length (futures_of l.resolve.types l.found.0);
  same : slice_get (futures_of l.resolve.types l.fn.id.0) l.fn.n ≡ slice_get (futures_of l.resolve.types l.found.0) l.left;
}

abbrev pub decreases-parts : goal.decreases-parts
decreases-parts l = length (listing_of l.resolve.types l.found.0)
