use Rattle.std.specs.Iterator.Adapters.{copied_source}
use Rattle.std.specs.Slice.Iter.{iter_rest}
use Rattle.wc_resolve.specs.Roots.{indices}
use Rattle.wc_ways.specs.Private.Needs.{root_view}
use Rattle.wc_ways.proofs.NeedLemmas.{FirstWalk}
use Rattle.wc_ways.proofs.needs.note_all.Given as goal

abbrev pub invariant-loop-id : goal.invariant-loop-id
invariant-loop-id l = FirstWalk (root_view l.root) l.types (indices (iter_rest (copied_source l.id-iterator))) l.fn.needed.roots.entries l.needed.roots.entries
