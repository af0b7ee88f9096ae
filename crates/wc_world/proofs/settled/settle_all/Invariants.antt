use Rattle.std.specs.Iterator.Adapters.{copied_source}
use Rattle.std.specs.Slice.Iter.{iter_rest}
use Rattle.wc_resolve.specs.Roots.{indices}
use Rattle.wc_world.specs.Used.{used_view}
use Rattle.wc_world.proofs.SettledLemmas.{SettledWalk}
use Rattle.wc_world.proofs.settled.settle_all.Given as goal

abbrev pub invariant-loop-ty : goal.invariant-loop-ty
invariant-loop-ty l = SettledWalk l.context.resolve.now (used_view l.context.used.now) l.live (indices (iter_rest (copied_source l.ty-iterator))) l.settled.items
