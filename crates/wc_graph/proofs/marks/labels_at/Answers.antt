use Rattle.std.proofs.Common.{◌<◌, ◌≤◌, length, inl, inr, arith}
use Rattle.std.proofs.lemmas.Bool.{cases_lt}
use Rattle.wc_graph.proofs.MarkLemmas.{labels_all, labels_next}
use Rattle.wc_graph.proofs.marks.labels_at.Goals as goal

pub loop-position-preserved : goal.loop-position-preserved
loop-position-preserved c =
    let from : c.args.start ≤ c.loop-position.position = omega arith in
    let e = c.end_of-end.ensures in
    let t = c.loop-position-test.true in
    let within : c.loop-position.position < length c.args.sources.now = omega (arith, e, t) in
    labels_next c.args.sources.now c.args.start c.args.size c.loop-position.position _ _ c.loop-position.labels.items c.join.new.words.items from within
    c.label.ensures c.loop-position.invariant c.join.ensures

pub returns : goal.returns
returns c =
    let e = c.end_of-end.ensures in
    let t = c.loop-position-test.false in
    labels_all c.args.sources.now c.args.start c.args.size c.loop-position.position c.loop-position.labels.items
    (elim (cases_lt c.loop-position.position (length c.args.sources.now)) [ inl less ↦ inl (omega (arith, e, t, less)) | inr past ↦ inr past ]) c.loop-position.invariant
