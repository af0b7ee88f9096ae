use Rattle.std.proofs.Common.{◌∙◌, ◌<◌, length, refl, arith}
use Rattle.wc_graph.proofs.LabelLemmas.{come_next, come_none}
use Rattle.wc_graph.proofs.labels.Spreading.add_each.Goals as goal

pub loop-item-init : goal.loop-item-init
loop-item-init c = record { come = come_none c.args.word c.args.self.now.words.items c.args.self.now.waiting.items; size = refl }

pub loop-item-preserved : goal.loop-item-preserved
loop-item-preserved c =
    let within : c.loop-item.item-index < length c.args.items.now = omega arith in
    record {
      come = come_next c.args.word c.args.items.now c.args.self.now.words.items c.args.self.now.waiting.items c.loop-item.self.words.items c.loop-item.self.waiting.items
          c.add.new.self.words.items c.add.new.self.waiting.items c.loop-item.item-index within c.loop-item.invariant.come c.in_ok-add.ensures.come;
      size = c.add.ensures.size ∙ c.loop-item.invariant.size;
    }
