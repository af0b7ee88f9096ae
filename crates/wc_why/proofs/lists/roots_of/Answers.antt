use Rattle.std.proofs.Common.{ap, arith, get_or, map, sym, subst, take}
use Rattle.wc_why.specs.Lists.{roots_from}
use Rattle.wc_why.specs.Part.{begin_view, part_view}
use Rattle.wc_why.specs.Private.Lists.{AreNumbersOf}
use Rattle.wc_why.proofs.ListLemmas.{part_put}
use Rattle.wc_why.proofs.ViewLemmas.{view_at, view_count, view_next}
use Rattle.wc_why.proofs.lists.roots_of.Goals as goal

pub loop-position-preserved : goal.loop-position-preserved
loop-position-preserved c =
    let parts = c.args.parts.now in
    let i = c.loop-position.position in
    let d = c.index-parts-position.result in
    let lt = c.loop-position-test.true in
    let at = view_at part_view parts i d lt in
    subst (λ ps. AreNumbersOf c.args.numbers.now (roots_from c.args.list 0 ps) c.put_roots.new.out.items) (sym (view_next part_view parts i d lt))
    (part_put c.args.numbers.now c.args.list (take i (map part_view parts)) (part_view (get_or parts i d)) i c.loop-position.roots.items c.put_roots.new.out.items
    (view_count part_view parts i (omega (arith, lt))) c.loop-position.invariant
    (c.in_ok-put_roots.ensures (map part_view parts) (part_view (get_or parts i d)) c.requires at (ap (map begin_view) (sym c.deref.ensures.value))))
