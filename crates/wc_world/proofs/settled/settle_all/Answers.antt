use Rattle.std.proofs.Common.{◌∙◌, ap, subst}
use Rattle.std.specs.List.{Contains}
use Rattle.std.specs.Iterator.Adapters.{copied_source}
use Rattle.std.specs.Slice.Iter.{iter_rest}
use Rattle.wc_resolve.specs.Roots.{indices}
use Rattle.wc_world.specs.Used.{used_view}
use Rattle.wc_world.proofs.LiveWalkLemmas.{id_next}
use Rattle.wc_world.proofs.SettledLemmas.{settled_in, settled_next}
use Rattle.wc_world.proofs.settled.settle_all.Goals as goal

pub loop-ty-init : goal.loop-ty-init
loop-ty-init c = record {
  there = λ t h. c.requires.there t (subst (λ z. Contains z t) (ap (λ z. indices (iter_rest (copied_source z))) c.into_iter-ty-iterator.ensures.into_iter_gives ∙ c.iter-ty-items.ensures) h);
  are = c.requires.settled;
}

pub settle-requires-clause-there : goal.settle-requires-clause-there
settle-requires-clause-there c =
    settled_in c.args.context.now.resolve.now (used_view c.args.context.now.used.now) c.args.live.now (indices (iter_rest (copied_source c.loop-ty.ty-iterator))) (indices (iter_rest (copied_source c.next.new.self))) c.loop-ty.settled.items c.in-Some.ty.0
    (id_next (copied_source c.loop-ty.ty-iterator) (copied_source c.next.new.self) c.in-Some.ty c.in-Some.ensures.steps.0 c.in-Some.ensures.steps.1 c.in-Some.ensures.steps.2) c.loop-ty.invariant

pub settle-requires-clause-settled : goal.settle-requires-clause-settled
settle-requires-clause-settled c = c.loop-ty.invariant.are

pub loop-ty-preserved : goal.loop-ty-preserved
loop-ty-preserved c =
    settled_next c.args.context.now.resolve.now (used_view c.args.context.now.used.now) c.args.live.now (indices (iter_rest (copied_source c.loop-ty.ty-iterator))) (indices (iter_rest (copied_source c.next.new.self))) c.loop-ty.settled.items c.settle.new.settled.items c.in-Some.ty.0
    (id_next (copied_source c.loop-ty.ty-iterator) (copied_source c.next.new.self) c.in-Some.ty c.in-Some.ensures.steps.0 c.in-Some.ensures.steps.1 c.in-Some.ensures.steps.2) c.in_ok-settle.ensures c.loop-ty.invariant

pub returns : goal.returns
returns c = c.loop-ty.invariant.are
