use Rattle.std.proofs.Common.{◌<◌, length, get_or, arith}
use Rattle.wc_graph.proofs.MarkLemmas.{labelled_next}
use Rattle.wc_graph.proofs.marks.mark_each.Goals as goal

pub join-requires : goal.join-requires
join-requires c x e =
    let b = c.requires.below (get_or c.args.positions.now c.loop-position.position-index 0) x ((c.source_at.ensures x).0 e) in
    let s = c.loop-position.invariant.sized in
    omega (arith, b, s)

pub loop-position-preserved : goal.loop-position-preserved
loop-position-preserved c =
    let within : c.loop-position.position-index < length c.args.positions.now = omega arith in
    labelled_next c.args.sources.now c.args.positions.now c.loop-position.position-index c.args.bit c.label.result c.source_at.result c.args.labels.now.items
    c.loop-position.labels.items c.join.new.words.items within c.source_at.ensures c.label.ensures c.loop-position.invariant c.join.ensures
