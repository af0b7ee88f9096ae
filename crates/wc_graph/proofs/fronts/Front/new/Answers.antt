use Rattle.std.proofs.Common.{refl, subst}
use Rattle.wc_graph.specs.Growth.{HasGrown}
use Rattle.wc_graph.specs.Private.Search.{finds}
use Rattle.wc_graph.proofs.WayLemmas.{front_start}
use Rattle.wc_graph.proofs.fronts.Front.new.Goals as goal

pub returns-clause-begins : goal.returns-clause-begins
returns-clause-begins g c =
    let order = c.reach_each.new.self.order.items in
    let grown = c.in_ok-reach_each.ensures.found c.in_ok-search.ensures.consistent in
    record {
      same = refl;
      front = λ way. front_start (g.G.Graph.names c.args.graph.now) c.args.roots.now way c.args.positions.items order (finds c.reach_each.new.self)
          (subst (λ z. HasGrown z (finds c.reach_each.new.self) order c.args.roots.now) c.in_ok-search.ensures.none grown);
    }
