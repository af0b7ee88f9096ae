use Rattle.std.proofs.Common.{◌∙◌, ℕ, [], ◌∷◌, ap, filter, subst}
use Rattle.std.specs.Iterator.Adapters.{copied_source}
use Rattle.std.specs.Slice.Iter.{iter_rest}
use Rattle.wc_resolve.specs.Live.{AddsListings}
use Rattle.wc_resolve.specs.Roots.{indices}
use Rattle.wc_world.specs.Live.{is_from_elsewhere}
use Rattle.wc_world.specs.Used.{used_view}
use Rattle.wc_world.proofs.LiveWalkLemmas.{adds_none, each_kept, id_next, ids_end, live_end, live_in, live_next, live_start}
use Rattle.wc_world.proofs.live.add_from_elsewhere.Goals as goal

pub loop-ty-init : goal.loop-ty-init
loop-ty-init c =
    live_start c.args.resolve.now (λ (t : ℕ). filter (is_from_elsewhere c.args.resolve.now (used_view c.args.used.now) c.args.id.0) (t ∷ [])) c.args.types.now (indices (iter_rest (copied_source c.into_iter-ty-iterator.result))) [] c.args.live.now c.args.live.now
    (ap (λ z. indices (iter_rest (copied_source z))) c.into_iter-ty-iterator.ensures.into_iter_gives ∙ c.iter-ty-items.ensures) (adds_none c.args.resolve.now c.args.live.now)

pub add_if_elsewhere-requires : goal.add_if_elsewhere-requires
add_if_elsewhere-requires c =
    c.requires c.in-Some.ty.0 (live_in c.args.resolve.now (λ (t : ℕ). filter (is_from_elsewhere c.args.resolve.now (used_view c.args.used.now) c.args.id.0) (t ∷ [])) c.args.types.now (indices (iter_rest (copied_source c.loop-ty.ty-iterator))) [] c.args.live.now (indices (iter_rest (copied_source c.next.new.self))) c.in-Some.ty.0 c.loop-ty.live
    (id_next (copied_source c.loop-ty.ty-iterator) (copied_source c.next.new.self) c.in-Some.ty c.in-Some.ensures.steps.0 c.in-Some.ensures.steps.1 c.in-Some.ensures.steps.2) c.loop-ty.invariant)

pub loop-ty-preserved : goal.loop-ty-preserved
loop-ty-preserved c =
    live_next c.args.resolve.now (λ (t : ℕ). filter (is_from_elsewhere c.args.resolve.now (used_view c.args.used.now) c.args.id.0) (t ∷ [])) c.args.types.now (indices (iter_rest (copied_source c.loop-ty.ty-iterator))) [] c.args.live.now (indices (iter_rest (copied_source c.next.new.self))) c.in-Some.ty.0 c.loop-ty.live c.add_if_elsewhere.new.live
    (id_next (copied_source c.loop-ty.ty-iterator) (copied_source c.next.new.self) c.in-Some.ty c.in-Some.ensures.steps.0 c.in-Some.ensures.steps.1 c.in-Some.ensures.steps.2) c.in_ok-add_if_elsewhere.ensures c.loop-ty.invariant

pub returns : goal.returns
returns c =
    subst (AddsListings c.args.resolve.now c.args.live.now c.loop-ty.live) (each_kept (is_from_elsewhere c.args.resolve.now (used_view c.args.used.now) c.args.id.0) c.args.types.now)
    (live_end c.args.resolve.now (λ (t : ℕ). filter (is_from_elsewhere c.args.resolve.now (used_view c.args.used.now) c.args.id.0) (t ∷ [])) c.args.types.now (indices (iter_rest (copied_source c.loop-ty.ty-iterator))) [] c.args.live.now c.loop-ty.live
    (ids_end (copied_source c.loop-ty.ty-iterator) (copied_source c.next.new.self) c.in-None.ensures.steps.0 c.in-None.ensures.steps.1 c.in-None.ensures.steps.2) c.loop-ty.invariant)
