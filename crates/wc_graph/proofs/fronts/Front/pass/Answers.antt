use Rattle.std.proofs.Common.{◌≡◌, ◌<◌, ◌∙◌, ap, sym, subst, refl, Some, None, get_or, length, vec_len, rules, arith}
use Rattle.std.proofs.lemmas.List.{get_or_default}
use Rattle.wc_graph.specs.Growth.{HasGrown}
use Rattle.wc_graph.specs.Private.Ways.{held_at}
use Rattle.wc_graph.specs.Private.Search.{finds}
use Rattle.wc_graph.proofs.SeenLemmas.{found_below}
use Rattle.wc_graph.proofs.WayLemmas.{front_held, front_on}
use Rattle.wc_graph.proofs.fronts.Front.pass.Goals as goal

pub index-requires : goal.index-requires
index-requires g c =
    let s = c.args.self.now in
    let r = c.requires.ready in
    let b = found_below s.search.seen.items s.search.order.items r.consistent s.next c.index-item.result.now c.requires.there in
    let e = c.index-item.ensures in
    let n : vec_len s.search.seen ≡ length s.search.seen.items = search rules in
    let m : vec_len s.positions ≡ length s.positions.items = search rules in
    let z = r.sized in
    let y = r.each in
    omega (arith, b, e, n, m, z, y)

pub reach_names-requires-clause-there : goal.reach_names-requires-clause-there
reach_names-requires-clause-there g c =
    let s = c.args.self.now in
    let r = c.requires.ready in
    let b = found_below s.search.seen.items s.search.order.items r.consistent s.next c.index-item.result.now c.requires.there in
    let e = c.index-item.ensures in
    let n : vec_len s.search.seen ≡ length s.search.seen.items = search rules in
    let z = r.sized in
    omega (arith, b, e, n, z)

pub returns-in-Some-clause-kept : goal.returns-in-Some-clause-kept
returns-in-Some-clause-kept g c =
    let s = c.args.self.now in
    let r = c.requires.ready in
    let item = c.index-item.result.now in
    let read : get_or s.search.order.items s.next 0 ≡ item = get_or_default s.search.order.items s.next 0 item c.requires.there ∙ sym c.index-item.ensures in
    let b = found_below s.search.seen.items s.search.order.items r.consistent s.next item c.requires.there in
    let e = c.index-item.ensures in
    let n : vec_len s.search.seen ≡ length s.search.seen.items = search rules in
    let z = r.sized in
    let y = r.each in
    let within : item < length s.positions.items = omega (arith, b, e, n, z, y) in
    let held : held_at s.positions.items (get_or s.search.order.items s.next 0) ≡ Some c.in-Some.position =
    ap (held_at s.positions.items) read
    ∙ (get_or_default s.positions.items item None c.index.result.now within ∙ (sym c.index.ensures ∙ c.in-Some.is)) in
    record {
      same = refl;
      front = λ roots way k f. front_held (g.G.Graph.names c.args.graph.now) roots way s.positions.items k s.search.order.items s.next s.last c.requires.there f
          c.in-Some.position c.later-self.result held c.later-self.ensures.last c.later-self.ensures.position c.later-self.ensures.one;
    }

pub returns-in_ok-reach_names-in-None-clause-kept : goal.returns-in_ok-reach_names-in-None-clause-kept
returns-in_ok-reach_names-in-None-clause-kept g c =
    let s = c.args.self.now in
    let r = c.requires.ready in
    let names = g.G.Graph.names c.args.graph.now in
    let item = c.index-item.result.now in
    let read : get_or s.search.order.items s.next 0 ≡ item = get_or_default s.search.order.items s.next 0 item c.requires.there ∙ sym c.index-item.ensures in
    let b = found_below s.search.seen.items s.search.order.items r.consistent s.next item c.requires.there in
    let e = c.index-item.ensures in
    let n : vec_len s.search.seen ≡ length s.search.seen.items = search rules in
    let z = r.sized in
    let y = r.each in
    let within : item < length s.positions.items = omega (arith, b, e, n, z, y) in
    let free : held_at s.positions.items (get_or s.search.order.items s.next 0) ≡ None =
    ap (held_at s.positions.items) read
    ∙ (get_or_default s.positions.items item None c.index.result.now within ∙ (sym c.index.ensures ∙ c.in-None.is)) in
    let found' = c.reach_names.new.self.order.items in
    let has' = finds c.reach_names.new.self in
    let grown : HasGrown s.search.order.items has' found' (names item) = c.in_ok-reach_names-in-None.ensures.found r.consistent in
    record {
      same = refl;
      front = λ roots way k f. front_on names roots way s.positions.items k s.search.order.items s.next s.last c.requires.there f found' has' free
          (subst (λ v. HasGrown s.search.order.items has' found' (names v)) (sym read) grown);
    }
