use Rattle.std.proofs.Common.{◌≡◌, ◌<◌, ◌+◌, ◌∙◌, length, get_or, sym, subst, arith}
use Rattle.wc_graph.specs.Growth.{HasGrown}
use Rattle.wc_graph.specs.Private.Ways.{ArePositions, IsFront}
use Rattle.wc_graph.specs.Private.Search.{finds}
use Rattle.wc_graph.proofs.WayLemmas.{AreMarked, front_open, mark_here, mark_last, marked_more, marked_none, marks_all, way_at}
use Rattle.wc_graph.proofs.fronts.find_dominators.Goals as goal

pub new-requires-clause-each : goal.new-requires-clause-each
new-requires-clause-each g c = (c.in_ok-positions.ensures c.args.roots.now c.requires.way).each

pub loop-index-init : goal.loop-index-init
loop-index-init g c =
    let names = g.G.Graph.names c.args.graph.now in
    let size = g.G.Graph.size c.args.graph.now in
    let roots = c.args.roots.now in
    let way = c.args.way.now in
    let front = c.in_ok-front.front in
    let b = c.in_ok-front.ensures.begins in
    record {
      ready = c.in_ok-front.ensures.ready;
      stops = subst (ArePositions c.args.targets.now way size) (sym b.same) (c.in_ok-positions.ensures roots c.requires.way);
      front = subst (λ z. IsFront names roots way z 0 front.search.order.items front.next front.last) (sym b.same) (b.front way);
      marked = subst (AreMarked names roots c.args.targets.now way 0) (sym c.new-marks.ensures.items) (marked_none names roots c.args.targets.now way);
    }

pub loop-index-preserved : goal.loop-index-preserved
loop-index-preserved g c =
    let names = g.G.Graph.names c.args.graph.now in
    let size = g.G.Graph.size c.args.graph.now in
    let roots = c.args.roots.now in
    let targets = c.args.targets.now in
    let way = c.args.way.now in
    let k = c.loop-index.index in
    let i = c.loop-index.invariant in
    let f = c.go_round.new.self in
    let kept = c.in_ok-go_round.ensures.kept in
    let ready = c.in_ok-go_round.ensures.ready in
    let w = way_at names roots targets way c.requires.way in
    let inside : k + 1 < length way = omega arith in
    let stops : ArePositions targets way size f.positions.items = subst (ArePositions targets way size) (sym kept.same) i.stops in
    let front : IsFront names roots way f.positions.items k f.search.order.items f.next f.last =
    subst (λ z. IsFront names roots way z k f.search.order.items f.next f.last) (sym kept.same) (kept.front roots way k i.front) in
    let found' = c.reach_names.new.self.order.items in
    let has' = finds c.reach_names.new.self in
    let grown : HasGrown f.search.order.items has' found' (names (get_or way k 0)) = c.in_ok-reach_names.ensures.found ready.consistent in
    record {
      ready = record { consistent = grown.tied; sized = c.reach_names.ensures.size ∙ ready.sized; each = ready.each };
      stops = stops;
      front = front_open names roots way f.positions.items targets size stops w k inside f.search.order.items f.next f.last c.in_ok-go_round.ensures.all front
          found' has' grown;
      marked = subst (AreMarked names roots targets way (k + 1)) (sym c.in_ok-push.ensures.items)
          (marked_more names roots targets way k c.loop-index.marks.items _ i.marked
          (mark_here names roots way f.positions.items targets size stops w k inside f.search.order.items f.next f.last c.in_ok-go_round.ensures.all front));
    }

pub returns : goal.returns
returns g c =
    let names = g.G.Graph.names c.args.graph.now in
    let roots = c.args.roots.now in
    let targets = c.args.targets.now in
    let way = c.args.way.now in
    let k = c.loop-index.index in
    let w = way_at names roots targets way c.requires.way in
    let some = w.some in
    let end : k + 1 ≡ length way = omega (arith, some) in
    marks_all names roots targets way c.push-2.new.self.items (k + 1) end
    (subst (AreMarked names roots targets way (k + 1)) (sym c.in_ok-push-2.ensures.items)
    (marked_more names roots targets way k c.loop-index.marks.items _ c.loop-index.invariant.marked (mark_last names roots targets way w k end)))
