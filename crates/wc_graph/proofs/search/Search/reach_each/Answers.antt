use Rattle.std.proofs.Common.{◌∙◌, ◌<◌, length, arith}
use Rattle.wc_graph.specs.Private.Search.{finds}
use Rattle.wc_graph.proofs.SeenLemmas.{grown_next}
use Rattle.wc_graph.proofs.search.Search.reach_each.Goals as goal

pub loop-item-preserved : goal.loop-item-preserved
loop-item-preserved c =
    let within : c.loop-item.item-index < length c.args.items.now = omega arith in
    record {
      found = grown_next (finds c.args.self.now) (finds c.loop-item.self) (finds c.reach.new.self) c.args.self.now.order.items c.loop-item.self.order.items
          c.reach.new.self.order.items c.args.items.now c.loop-item.item-index within c.loop-item.invariant.found c.in_ok-reach.ensures.found;
      size = c.reach.ensures.size ∙ c.loop-item.invariant.size;
    }
