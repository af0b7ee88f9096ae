use Rattle.std.proofs.Common.{◌<◌, ◌≤◌, length, sym, ◌∙◌, refl, arith, inl, inr, rules}
use Rattle.std.proofs.lemmas.List.{get_or_default}
use Rattle.wc_read.specs.Decoded.{decoded_module}
use Rattle.wc_gc.specs.Private.Search.{finds}
use Rattle.wc_gc.proofs.ReachLemmas.{roots_more, start_at, step_at, reached_at, count_at, reached_in_range, all_there}
use Rattle.wc_graph.proofs.ListLemmas.{falls_by}
use Rattle.wc_gc.proofs.TrimPlaceLemmas.{refused_at}
use Rattle.wc_gc.proofs.ItemCountLemmas.{bounded_found, total}
use Rattle.wc_read.specs.declared.operators.Space.TheVariants.{Types}
use Rattle.wc_gc.proofs.search.Search.reach_all.Goals as goal

pub loop-root-preserved : goal.loop-root-preserved
loop-root-preserved g c =
    let within : c.loop-root.root-index < length c.args.roots.now = omega arith in
    roots_more (finds g.L.LiveSet.has c.args.self.now) c.args.self.now.order.items (finds g.L.LiveSet.has c.loop-root.self) c.loop-root.self.order.items
    (finds g.L.LiveSet.has c.reach.new.self) c.reach.new.self.order.items c.args.roots.now c.loop-root.root-index
    (Types, 0) within c.loop-root.invariant c.in_ok-reach.ensures

pub loop-next-init : goal.loop-next-init
loop-next-init g c = (
  start_at (decoded_module c.args.adapter.now) c.args.roots.now (finds g.L.LiveSet.has c.args.self.now) c.args.self.now.order.items
      (finds g.L.LiveSet.has c.loop-root.self) c.loop-root.self.order.items c.loop-root.root-index
      (omega arith) c.loop-root.invariant c.requires.none c.requires.consistent,
  λ cut. cut,
)

pub loop-next-preserved : goal.loop-next-preserved
loop-next-preserved g c =
    let within : c.loop-next.next < length c.loop-next.self.order.items = search rules in (
      step_at (decoded_module c.args.adapter.now) c.args.roots.now (finds g.L.LiveSet.has c.loop-next.self) c.loop-next.self.order.items c.loop-next.next
          (finds g.L.LiveSet.has c.reach_and_cut.new.self) c.reach_and_cut.new.self.order.items c.index-item.result.now within
          (λ d. get_or_default c.loop-next.self.order.items c.loop-next.next d c.index-item.result.now within ∙ sym c.index-item.ensures)
          c.loop-next.invariant.0 c.in-Ok.ensures.found (c.in-Ok.ensures.in_range refl),
      λ cut. c.in-Ok.ensures.cut (c.loop-next.invariant.1 cut),
    )

pub returns-clause-reached : goal.returns-clause-reached
returns-clause-reached g c =
    let over : length c.loop-next.self.order.items ≤ c.loop-next.next = search rules in
    λ _. reached_at (decoded_module c.args.adapter.now) c.args.roots.now
    (finds g.L.LiveSet.has c.loop-next.self) c.loop-next.self.order.items c.loop-next.next over c.loop-next.invariant.0

pub returns-clause-in_range : goal.returns-clause-in_range
returns-clause-in_range g c =
    let over : length c.loop-next.self.order.items ≤ c.loop-next.next = search rules in
    λ _. reached_in_range (decoded_module c.args.adapter.now) c.args.roots.now
    (finds g.L.LiveSet.has c.loop-next.self) c.loop-next.self.order.items c.loop-next.next over c.loop-next.invariant.0

pub returns-clause-counted : goal.returns-clause-counted
returns-clause-counted g c =
    let over : length c.loop-next.self.order.items ≤ c.loop-next.next = search rules in
    count_at (decoded_module c.args.adapter.now) c.args.roots.now
    (finds g.L.LiveSet.has c.loop-next.self) c.loop-next.self.order.items c.loop-next.next over c.loop-next.invariant.0

pub returns-in-LiveBody-clause-stop : goal.returns-in-LiveBody-clause-stop
returns-in-LiveBody-clause-stop g c =
    let within : c.loop-next.next < length c.loop-next.self.order.items = search rules in
    inr (
      c.index-item.result.now.1,
      refl,
      refused_at (decoded_module c.args.adapter.now) c.args.roots.now
          (finds g.L.LiveSet.has c.loop-next.self) c.loop-next.self.order.items c.loop-next.next c.loop-next.invariant.0 within
          c.index-item.result.now (sym c.index-item.ensures)
          (elim c.in-Err.ensures.fault [ inl e ↦ absurd (cc (e, c.in-LiveBody.is)) | inr b ↦ b.1 ]),
    )

pub loop-next-smaller : goal.loop-next-smaller
loop-next-smaller g c =
    let within : c.loop-next.next < length c.loop-next.self.order.items = search rules in
    let bounded = bounded_found (decoded_module c.args.adapter.now) c.loop-next.self.order.items c.loop-next.invariant.0.searched.tied.distinct
    (all_there (decoded_module c.args.adapter.now) c.args.roots.now
    (finds g.L.LiveSet.has c.loop-next.self) c.loop-next.self.order.items c.loop-next.next c.requires.there c.loop-next.invariant.0) in
    falls_by (total (decoded_module c.args.adapter.now)) c.loop-next.next (length c.loop-next.self.order.items) within bounded
