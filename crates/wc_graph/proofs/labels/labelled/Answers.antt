use Rattle.std.proofs.Common.{refl, get_or}
use Rattle.wc_graph.proofs.LabelLemmas.{noted_more}
use Rattle.wc_graph.proofs.labels.labelled.Goals as goal

pub loop-item-preserved : goal.loop-item-preserved
loop-item-preserved c =
    noted_more c.args.labels.now c.loop-item.waiting.items c.note.new.waiting.items c.loop-item.item (get_or c.args.labels.now c.loop-item.item 0) refl
    c.loop-item.invariant c.in_ok-note.ensures
