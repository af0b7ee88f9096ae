use Rattle.std.proofs.Common.{get_or, map, subst}
use Rattle.wc_why.specs.Part.{begin_view, part_view}
use Rattle.wc_why.specs.Private.Roots.{AreFirstsOf}
use Rattle.wc_why.proofs.FirstLemmas.{firsts_more}
use Rattle.wc_why.proofs.ViewLemmas.{view_at}
use Rattle.wc_why.proofs.roots.first_begins.Goals as goal

pub loop-position-preserved : goal.loop-position-preserved
loop-position-preserved c =
    let parts = c.args.parts.now in
    let i = c.loop-position.position in
    let d = c.index-parts-position.result in
    firsts_more (map part_view parts) c.args.numbers.now i (part_view (get_or parts i d)) c.loop-position.firsts.items c.note_begins.new.firsts.items
    (view_at part_view parts i d c.loop-position-test.true) c.loop-position.invariant
    (subst (λ bs. AreFirstsOf c.args.numbers.now i (map begin_view bs) c.loop-position.firsts.items c.note_begins.new.firsts.items) c.deref.ensures.value
    (c.note_begins.ensures (map part_view parts) c.requires))
