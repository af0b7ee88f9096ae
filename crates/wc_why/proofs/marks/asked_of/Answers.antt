use Rattle.wc_why.proofs.MarkLemmas.{asked_step}
use Rattle.wc_why.proofs.marks.asked_of.Goals as goal

pub loop-target-preserved : goal.loop-target-preserved
loop-target-preserved c =
    asked_step c.args.numbers.now c.args.targets.now c.loop-target.target-index _ c.loop-target.asked.items c.put_asked.new.out.items c.loop-target-test.true
    c.in_ok-put_asked.ensures c.loop-target.invariant
