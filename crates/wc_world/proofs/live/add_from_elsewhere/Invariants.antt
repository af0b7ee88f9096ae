use Rattle.std.proofs.Common.{ℕ, [], ◌∷◌, filter}
use Rattle.std.specs.Iterator.Adapters.{copied_source}
use Rattle.std.specs.Slice.Iter.{iter_rest}
use Rattle.wc_resolve.specs.Roots.{indices}
use Rattle.wc_world.specs.Live.{is_from_elsewhere}
use Rattle.wc_world.specs.Used.{used_view}
use Rattle.wc_world.proofs.LiveWalkLemmas.{LiveWalk}
use Rattle.wc_world.proofs.live.add_from_elsewhere.Given as goal

abbrev pub invariant-loop-ty : goal.invariant-loop-ty
invariant-loop-ty l = LiveWalk l.resolve (λ (t : ℕ). filter (is_from_elsewhere l.resolve (used_view l.used) l.id.0) (t ∷ [])) l.types (indices (iter_rest (copied_source l.ty-iterator))) [] l.fn.live l.live
