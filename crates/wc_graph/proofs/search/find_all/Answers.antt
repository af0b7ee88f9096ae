use Rattle.std.proofs.Common.{◌≡◌, ℕ, refl, sym, ◌∙◌, subst, ◌<◌, ◌≤◌, get_or, length, vec_len, rules, arith}
use Rattle.std.proofs.lemmas.List.{get_or_default}
use Rattle.wc_graph.specs.Growth.{HasGrown}
use Rattle.wc_graph.proofs.ListLemmas.{resized}
use Rattle.wc_graph.proofs.ListLemmas.{falls_by}
use Rattle.wc_graph.proofs.ShortestLemmas.{finders, grown_longer}
use Rattle.wc_graph.specs.Private.Search.{finds}
use Rattle.wc_graph.proofs.SeenLemmas.{found_below, found_bounded}
use Rattle.wc_graph.proofs.SearchLemmas.{all_closed, are_found, bad_reached, search_begun, search_next, tree_of}
use Rattle.wc_graph.proofs.search.find_all.Goals as goal

pub loop-next-init : goal.loop-next-init
loop-next-init g c =
    let order = c.reach_each.new.self.order.items in
    let grown = c.in_ok-reach_each.ensures.found c.in_ok-search.ensures.consistent in
    let n : vec_len c.reach_each.new.self.order ≡ length order = search rules in
    let sized : length c.in_ok-finder.finder.items ≡ length order = c.in_ok-finder.ensures.each ∙ (c.len-2.ensures ∙ n) in
    record {
      at = search_begun (g.G.Graph.names c.args.graph.now) (g.G.Graph.is_closed c.args.graph.now) c.args.roots.now (finds c.reach_each.new.self) order
          c.in_ok-finder.finder.items (subst (λ z. HasGrown z (finds c.reach_each.new.self) order c.args.roots.now) c.in_ok-search.ensures.none grown) sized
          (λ k h. c.in_ok-finder.ensures.own k (let e = c.len-2.ensures in omega (arith, h, e, n)));
      size = c.reach_each.ensures.size ∙ (c.in_ok-search.ensures.size ∙ c.len.ensures);
    }

pub reach_names-requires-clause-there : goal.reach_names-requires-clause-there
reach_names-requires-clause-there g c =
    let within : c.loop-next.next < length c.loop-next.search.order.items = search rules in
    let n : vec_len c.loop-next.search.seen ≡ length c.loop-next.search.seen.items = search rules in
    let b = found_below c.loop-next.search.seen.items c.loop-next.search.order.items c.loop-next.invariant.at.searched.tied c.loop-next.next c.index-item.result.now within in
    let e = c.index-item.ensures in
    let z = c.loop-next.invariant.size in
    omega (arith, b, e, n, z)

pub loop-next-smaller : goal.loop-next-smaller
loop-next-smaller g c =
    let within : c.loop-next.next < length c.loop-next.search.order.items = search rules in
    let n : vec_len c.loop-next.search.seen ≡ length c.loop-next.search.seen.items = search rules in
    let b = found_bounded c.loop-next.search.seen.items c.loop-next.search.order.items c.loop-next.invariant.at.searched.tied in
    let z = c.loop-next.invariant.size in
    falls_by (g.G.Graph.size c.args.graph.now) c.loop-next.next (length c.loop-next.search.order.items) within (omega (arith, b, n, z))

pub loop-next-preserved : goal.loop-next-preserved
loop-next-preserved g c =
    let names = g.G.Graph.names c.args.graph.now in
    let found = c.loop-next.search.order.items in
    let found' = c.reach_names.new.self.order.items in
    let finder = c.loop-next.finder.items in
    let item = c.index-item.result.now in
    let within : c.loop-next.next < length found = search rules in
    let s = c.loop-next.invariant.at in
    let grown = c.in_ok-reach_names.ensures.found s.searched.tied in
    let n : vec_len c.reach_names.new.self.order ≡ length found' = search rules in
    let held : vec_len c.loop-next.finder ≡ length finder = search rules in
    let z : length finder ≡ length found = s.tree.1.sized in
    let read : (d : ℕ) → get_or found c.loop-next.next d ≡ item = (λ d. get_or_default found c.loop-next.next d item within ∙ sym c.index-item.ensures) in
    record {
      at = search_next names (g.G.Graph.is_closed c.args.graph.now) c.args.roots.now (finds c.loop-next.search) found finder c.loop-next.next
          (finds c.reach_names.new.self) found' c.resize.new.self.items item within read s grown (sym c.in_ok-reach_names.ensures.closed ∙ c.if-not-branch.false)
          (resized finder c.resize.new.self.items c.len-in-loop-next-2.result (vec_len c.loop-next.finder) (length found') (length found) c.loop-next.next
          c.in_ok-resize.ensures.items (c.len-in-loop-next-2.ensures ∙ n) (held ∙ z) z (grown_longer found (finds c.reach_names.new.self) found' (names item) grown));
      size = c.reach_names.ensures.size ∙ c.loop-next.invariant.size;
    }

pub returns-then-not-branch-clause-fault : goal.returns-then-not-branch-clause-fault
returns-then-not-branch-clause-fault g c =
    let found = c.loop-next.search.order.items in
    let item = c.index-item.result.now in
    let within : c.loop-next.next < length found = search rules in
    let read : (d : ℕ) → get_or found c.loop-next.next d ≡ item = (λ d. get_or_default found c.loop-next.next d item within ∙ sym c.index-item.ensures) in (
      bad_reached (g.G.Graph.names c.args.graph.now) (g.G.Graph.is_closed c.args.graph.now) c.args.roots.now (finds c.loop-next.search) found c.loop-next.finder.items
          c.loop-next.next item within read c.loop-next.invariant.at,
      sym c.in_ok-reach_names.ensures.closed ∙ c.if-not-branch.true,
    )

pub returns-clause-tree : goal.returns-clause-tree
returns-clause-tree g c =
    let over : length c.loop-next.search.order.items ≤ c.loop-next.next = search rules in
    tree_of (g.G.Graph.names c.args.graph.now) (g.G.Graph.is_closed c.args.graph.now) c.args.roots.now (finds c.loop-next.search) c.loop-next.search.order.items
    c.loop-next.finder.items c.loop-next.next over c.loop-next.invariant.at _ refl refl

pub returns-clause-there : goal.returns-clause-there
returns-clause-there g c = λ k d h.
    let b = found_below c.loop-next.search.seen.items c.loop-next.search.order.items c.loop-next.invariant.at.searched.tied k d h in
    let n : vec_len c.loop-next.search.seen ≡ length c.loop-next.search.seen.items = search rules in
    let z = c.loop-next.invariant.size in
    omega (arith, b, n, z)

pub returns-clause-closed : goal.returns-clause-closed
returns-clause-closed g c =
    let over : length c.loop-next.search.order.items ≤ c.loop-next.next = search rules in
    λ _. all_closed (g.G.Graph.names c.args.graph.now) (g.G.Graph.is_closed c.args.graph.now) c.args.roots.now (finds c.loop-next.search)
    c.loop-next.search.order.items c.loop-next.finder.items c.loop-next.next over c.loop-next.invariant.at

pub invariant_of-result : goal.invariant_of-result
invariant_of-result g c =
    let over : length c.loop-next.search.order.items ≤ c.loop-next.next = search rules in
    record {
      finders = finders (g.G.Graph.names c.args.graph.now) c.args.roots.now c.loop-next.search.order.items c.loop-next.finder.items 0
          (are_found (g.G.Graph.names c.args.graph.now) (g.G.Graph.is_closed c.args.graph.now) c.args.roots.now (finds c.loop-next.search)
          c.loop-next.search.order.items c.loop-next.finder.items c.loop-next.next over c.loop-next.invariant.at);
    }
