use Rattle.std.proofs.Common.{◌≡◌, take, vec_len}
use Rattle.wc_graph.specs.Private.Search.{FindsItems}
use Rattle.wc_graph.proofs.search.Search.reach_each.Given as goal

abbrev pub invariant-loop-item : goal.invariant-loop-item
invariant-loop-item l = record {
  found : FindsItems l.initial.self l.self (take l.item-index l.items);
  size : vec_len l.self.seen ≡ vec_len l.initial.self.seen;
}
