use Rattle.std.specs.Iterator.Adapters.{copied_source}
use Rattle.std.specs.Slice.Iter.{iter_rest}
use Rattle.wc_resolve.specs.Roots.{indices}
use Rattle.wc_world.specs.WorldViews.{live_view}
use Rattle.wc_world.proofs.LiveWalkLemmas.{OwnerWalk}
use Rattle.wc_world.proofs.live.by_owner.Given as goal

abbrev pub invariant-loop-ty : goal.invariant-loop-ty
invariant-loop-ty l = OwnerWalk l.resolve l.live (indices (iter_rest (copied_source l.ty-iterator))) (live_view l.groups)
