use Rattle.wc_why.specs.Private.Positions.{ArePositionsTo, groups_view}
use Rattle.wc_why.proofs.modules.positions_in.Given as goal

abbrev pub invariant-loop-position : goal.invariant-loop-position
invariant-loop-position l = ArePositionsTo l.items l.count l.position (groups_view l.groups.items) l.own.items
