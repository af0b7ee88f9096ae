use Rattle.std.proofs.Common.{◌≡◌, take, vec_len}
use Rattle.wc_graph.specs.Private.Labels.{Comes}
use Rattle.wc_graph.proofs.labels.Spreading.add_each.Given as goal

abbrev pub invariant-loop-item : goal.invariant-loop-item
invariant-loop-item l = record {
  come : Comes l.word (take l.item-index l.items) l.initial.self l.self;
  size : vec_len l.self.words ≡ vec_len l.initial.self.words;
}
