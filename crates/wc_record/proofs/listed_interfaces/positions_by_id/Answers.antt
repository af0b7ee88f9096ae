use Rattle.std.proofs.Common.{rules}
use Rattle.wc_record.proofs.ListedInterfaceLemmas.{positions_next}
use Rattle.wc_record.proofs.listed_interfaces.positions_by_id.Goals as goal

pub loop-position-preserved : goal.loop-position-preserved
loop-position-preserved c =
    positions_next c.args.interfaces.now c.loop-position.position _ c.loop-position.positions.entries c.list_position.new.positions.entries (search rules)
    c.in_ok-list_position.ensures c.loop-position.invariant
