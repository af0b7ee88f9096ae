use Rattle.wc_why.specs.Private.Positions.{groups_view}
use Rattle.wc_why.proofs.PositionLemmas.{positions_step}
use Rattle.wc_why.proofs.modules.positions_in.Goals as goal

pub loop-position-preserved : goal.loop-position-preserved
loop-position-preserved c =
    positions_step c.args.items.now c.args.count c.loop-position.position (0, 0) (groups_view c.loop-position.groups.items) (groups_view c.put_under.new.groups.items)
    c.loop-position.own.items c.push.new.self.items c.in_ok-place.place c.loop-position-test.true c.loop-position.invariant
    (c.requires c.loop-position.position (0, 0) c.loop-position-test.true) c.in_ok-place.ensures c.in_ok-push.ensures.items
