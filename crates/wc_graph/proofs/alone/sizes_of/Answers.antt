use Rattle.std.proofs.Common.{◌<◌, length, arith}
use Rattle.wc_graph.proofs.AloneLemmas.{sizes_next}
use Rattle.wc_graph.proofs.alone.sizes_of.Goals as goal

pub loop-item-preserved : goal.loop-item-preserved
loop-item-preserved c =
    let within : c.loop-item.item-index < length c.args.items.now = omega arith in
    sizes_next c.args.words.now c.args.bit c.args.items.now c.loop-item.item-index _ c.loop-item.sizes.items c.note_size.new.sizes.items within
    c.loop-item.invariant c.is_alone.result c.is_alone.ensures c.in_ok-note_size.ensures
