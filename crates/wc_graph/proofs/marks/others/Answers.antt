use Rattle.std.proofs.Common.{◌<◌, ◌≤◌, length, arith}
use Rattle.wc_graph.proofs.MarkLemmas.{others_all, others_next}
use Rattle.wc_graph.proofs.marks.others.Goals as goal

pub loop-position-preserved : goal.loop-position-preserved
loop-position-preserved c =
    let within : c.loop-position.position < length c.args.sources.now = omega arith in
    others_next c.args.sources.now c.args.labels.now c.loop-position.position c.missing.result _ c.loop-position.others.items c.join.new.words.items within c.requires
    c.missing.ensures c.loop-position.invariant c.join.ensures

pub returns : goal.returns
returns c =
    let over : length c.args.sources.now ≤ c.loop-position.position = omega arith in
    others_all c.args.sources.now c.args.labels.now c.loop-position.position c.loop-position.others.items over c.loop-position.invariant
