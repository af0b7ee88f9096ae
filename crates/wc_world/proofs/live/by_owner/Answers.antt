use Rattle.std.proofs.Common.{◌∙◌, ap, map}
use Rattle.std.specs.Iterator.Adapters.{copied_source}
use Rattle.std.specs.Slice.Iter.{iter_rest}
use Rattle.wc_resolve.specs.Roots.{indices}
use Rattle.wc_world.specs.WorldViews.{live_view}
use Rattle.wc_world.proofs.LiveWalkLemmas.{id_next, ids_end, owners_end, owners_in, owners_next, owners_start}
use Rattle.wc_world.proofs.OwnerLemmas.{group_view}
use Rattle.wc_world.proofs.live.by_owner.Goals as goal

pub loop-ty-init : goal.loop-ty-init
loop-ty-init c =
    owners_start c.args.resolve.now c.args.live.now (indices (iter_rest (copied_source c.into_iter-ty-iterator.result))) (live_view c.with_hasher-groups.result)
    (ap (λ z. indices (iter_rest (copied_source z))) c.into_iter-ty-iterator.ensures.into_iter_gives ∙ c.iter-ty-items.ensures) (ap (map group_view) c.with_hasher-groups.ensures.empty)

pub add_owned-requires : goal.add_owned-requires
add_owned-requires c =
    c.requires.there c.in-Some.ty.0
    (owners_in c.args.resolve.now c.args.live.now (indices (iter_rest (copied_source c.loop-ty.ty-iterator))) (indices (iter_rest (copied_source c.next.new.self))) c.in-Some.ty.0 (live_view c.loop-ty.groups) (id_next (copied_source c.loop-ty.ty-iterator) (copied_source c.next.new.self) c.in-Some.ty c.in-Some.ensures.steps.0 c.in-Some.ensures.steps.1 c.in-Some.ensures.steps.2) c.loop-ty.invariant)

pub loop-ty-preserved : goal.loop-ty-preserved
loop-ty-preserved c =
    owners_next c.args.resolve.now c.args.live.now (indices (iter_rest (copied_source c.loop-ty.ty-iterator))) (indices (iter_rest (copied_source c.next.new.self))) c.in-Some.ty.0 (live_view c.loop-ty.groups) (live_view c.add_owned.new.groups)
    (id_next (copied_source c.loop-ty.ty-iterator) (copied_source c.next.new.self) c.in-Some.ty c.in-Some.ensures.steps.0 c.in-Some.ensures.steps.1 c.in-Some.ensures.steps.2) c.requires.once c.in_ok-add_owned.ensures c.loop-ty.invariant

pub returns : goal.returns
returns c =
    owners_end c.args.resolve.now c.args.live.now (indices (iter_rest (copied_source c.loop-ty.ty-iterator))) (live_view c.loop-ty.groups) (ids_end (copied_source c.loop-ty.ty-iterator) (copied_source c.next.new.self) c.in-None.ensures.steps.0 c.in-None.ensures.steps.1 c.in-None.ensures.steps.2) c.loop-ty.invariant
