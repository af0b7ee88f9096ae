use Rattle.std.proofs.Common.{◌≡◌, ◌<◌, length, vec_len, rules, arith}
use Rattle.wc_graph.proofs.ListLemmas.{falls_by}
use Rattle.wc_graph.proofs.SeenLemmas.{found_bounded}
use Rattle.wc_graph.proofs.WayLemmas.{kept_on}
use Rattle.wc_graph.proofs.fronts.Front.go_round.Goals as goal

pub loop-self-smaller : goal.loop-self-smaller
loop-self-smaller g c =
    let s = c.loop-self.self in
    let r = c.loop-self.invariant.ready in
    let within : s.next < length s.search.order.items = search rules in
    let n : vec_len s.search.seen ≡ length s.search.seen.items = search rules in
    let b = found_bounded s.search.seen.items s.search.order.items r.consistent in
    let z = r.sized in
    let e = c.in_ok-pass.ensures.next in
    let less = falls_by (g.G.Graph.size c.args.graph.now) s.next (length s.search.order.items) within (omega (arith, b, n, z)) in
    omega (arith, less, e)

pub loop-self-preserved : goal.loop-self-preserved
loop-self-preserved g c = record {
  ready = c.in_ok-pass.ensures.ready;
  kept = kept_on (g.G.Graph.names c.args.graph.now) c.args.self.now c.loop-self.self c.pass.new.self c.loop-self.invariant.kept c.in_ok-pass.ensures.kept;
}
