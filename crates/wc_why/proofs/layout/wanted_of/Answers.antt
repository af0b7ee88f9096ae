use Rattle.wc_why.proofs.LaidLemmas.{functions_more}
use Rattle.wc_why.proofs.layout.wanted_of.Goals as goal

pub loop-item-preserved : goal.loop-item-preserved
loop-item-preserved c =
    functions_more c.args.items.now c.loop-item.item-index _ c.loop-item.wanted.items c.put_wanted.new.out.items c.loop-item-test.true c.in_ok-put_wanted.ensures
    c.loop-item.invariant
