use Rattle.std.proofs.Common.{ℕ, [], ◌∷◌, filter}
use Rattle.std.specs.Iterator.Adapters.{copied_source}
use Rattle.std.specs.Slice.Iter.{iter_rest}
use Rattle.wc_resolve.specs.Roots.{indices}
use Rattle.wc_world.specs.Live.{is_from_elsewhere}
use Rattle.wc_world.specs.Used.{used_view}
use Rattle.wc_ways.proofs.NeedLemmas.{FindsWalk}
use Rattle.wc_ways.proofs.type_roots.note_from_elsewhere.Given as goal

abbrev pub invariant-loop-ty : goal.invariant-loop-ty
invariant-loop-ty l =
    FindsWalk l.needing (λ (t : ℕ). filter (is_from_elsewhere l.needing.resolve.now (used_view l.used) l.id.0) (t ∷ [])) l.types l.fn.found
    (indices (iter_rest (copied_source l.ty-iterator))) l.found
