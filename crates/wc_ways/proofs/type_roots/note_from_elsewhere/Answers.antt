use Rattle.std.proofs.Common.{◌∙◌, ℕ, [], ◌∷◌, ap, filter, subst}
use Rattle.std.specs.Iterator.Adapters.{copied_source}
use Rattle.std.specs.Slice.Iter.{iter_rest}
use Rattle.wc_resolve.specs.Roots.{indices}
use Rattle.wc_world.specs.Live.{is_from_elsewhere}
use Rattle.wc_world.specs.Used.{used_view}
use Rattle.wc_world.proofs.LiveWalkLemmas.{each_kept, id_next, ids_end}
use Rattle.wc_ways.specs.Private.Needs.{Finds}
use Rattle.wc_ways.proofs.NeedLemmas.{finds_end, finds_next, finds_start}
use Rattle.wc_ways.proofs.type_roots.note_from_elsewhere.Goals as goal

pub loop-ty-init : goal.loop-ty-init
loop-ty-init c =
    let g = c.args.needing.now in
    let sets = used_view c.args.used.now in
    finds_start g (λ (t : ℕ). filter (is_from_elsewhere g.resolve.now sets c.args.id.0) (t ∷ [])) c.args.types.now c.args.found.now _
    (ap (λ z. indices (iter_rest (copied_source z))) c.into_iter-ty-iterator.ensures.into_iter_gives ∙ c.iter-ty-items.ensures)

pub loop-ty-preserved : goal.loop-ty-preserved
loop-ty-preserved c =
    let g = c.args.needing.now in
    let sets = used_view c.args.used.now in
    finds_next g (λ (t : ℕ). filter (is_from_elsewhere g.resolve.now sets c.args.id.0) (t ∷ [])) c.args.types.now c.args.found.now
    (indices (iter_rest (copied_source c.loop-ty.ty-iterator))) (indices (iter_rest (copied_source c.next.new.self))) c.in-Some.ty.0 c.loop-ty.found c.note_if_elsewhere.new.found
    (id_next (copied_source c.loop-ty.ty-iterator) (copied_source c.next.new.self) c.in-Some.ty c.in-Some.ensures.steps.0 c.in-Some.ensures.steps.1 c.in-Some.ensures.steps.2)
    c.in_ok-note_if_elsewhere.ensures c.loop-ty.invariant

pub returns : goal.returns
returns c =
    let g = c.args.needing.now in
    let sets = used_view c.args.used.now in
    subst (Finds g c.args.found.now c.loop-ty.found) (each_kept (is_from_elsewhere g.resolve.now sets c.args.id.0) c.args.types.now)
    (finds_end g (λ (t : ℕ). filter (is_from_elsewhere g.resolve.now sets c.args.id.0) (t ∷ [])) c.args.types.now c.args.found.now
    (indices (iter_rest (copied_source c.loop-ty.ty-iterator))) c.loop-ty.found
    (ids_end (copied_source c.loop-ty.ty-iterator) (copied_source c.next.new.self) c.in-None.ensures.steps.0 c.in-None.ensures.steps.1 c.in-None.ensures.steps.2) c.loop-ty.invariant)
