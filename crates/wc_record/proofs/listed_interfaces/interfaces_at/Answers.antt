use Rattle.wc_record.proofs.ListedInterfaceLemmas.{found_next}
use Rattle.wc_record.proofs.listed_interfaces.interfaces_at.Goals as goal

pub loop-position-preserved : goal.loop-position-preserved
loop-position-preserved c =
    found_next c.args.interfaces.now c.args.positions.now c.loop-position.position-index _ c.loop-position.found.items c.push.new.self.items
    c.loop-position-test.true (c.requires c.loop-position.position-index 0 c.loop-position-test.true) c.in_ok-push.ensures.items
    c.loop-position.invariant
