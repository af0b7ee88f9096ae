use Rattle.std.proofs.Common.{take}
use Rattle.wc_resolve.specs.Dependencies.{interface_ids}
use Rattle.wc_record.proofs.listed_interfaces.positions_by_id.Given as goal
use Rattle.wc_record.specs.Private.ListedInterfaces.{ArePositions}

abbrev pub invariant-loop-position : goal.invariant-loop-position
invariant-loop-position l = ArePositions (interface_ids (take l.position l.interfaces)) l.positions.entries
