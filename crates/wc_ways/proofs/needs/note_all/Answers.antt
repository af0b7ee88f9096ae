use Rattle.std.proofs.Common.{◌∙◌, ap}
use Rattle.std.specs.Iterator.Adapters.{copied_source}
use Rattle.std.specs.Slice.Iter.{iter_rest}
use Rattle.wc_resolve.specs.Roots.{indices}
use Rattle.wc_world.proofs.LiveWalkLemmas.{id_next, ids_end}
use Rattle.wc_ways.specs.Private.Needs.{root_view}
use Rattle.wc_ways.proofs.NeedLemmas.{first_end, first_next, first_start}
use Rattle.wc_ways.proofs.needs.note_all.Goals as goal

pub loop-id-init : goal.loop-id-init
loop-id-init c =
    first_start (root_view c.args.root) c.args.types.now c.args.needed.now.roots.entries _
    (ap (λ z. indices (iter_rest (copied_source z))) c.into_iter-id-iterator.ensures.into_iter_gives ∙ c.iter-id-items.ensures)

pub loop-id-preserved : goal.loop-id-preserved
loop-id-preserved c =
    first_next (root_view c.args.root) c.args.types.now c.args.needed.now.roots.entries (indices (iter_rest (copied_source c.loop-id.id-iterator)))
    (indices (iter_rest (copied_source c.next.new.self))) c.in-Some.id.0 c.loop-id.needed.roots.entries c.note_one.new.needed.roots.entries
    (id_next (copied_source c.loop-id.id-iterator) (copied_source c.next.new.self) c.in-Some.id c.in-Some.ensures.steps.0 c.in-Some.ensures.steps.1 c.in-Some.ensures.steps.2)
    c.in_ok-note_one.ensures c.loop-id.invariant

pub returns : goal.returns
returns c =
    first_end (root_view c.args.root) c.args.types.now c.args.needed.now.roots.entries (indices (iter_rest (copied_source c.loop-id.id-iterator))) c.loop-id.needed.roots.entries
    (ids_end (copied_source c.loop-id.id-iterator) (copied_source c.next.new.self) c.in-None.ensures.steps.0 c.in-None.ensures.steps.1 c.in-None.ensures.steps.2) c.loop-id.invariant
