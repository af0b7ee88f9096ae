use Rattle.std.proofs.Common.{◌≡◌, map, take}
use Rattle.wc_resolve.specs.Dependencies.{interface_ids}
use Rattle.wc_record.proofs.listed_interfaces.interfaces_at.Given as goal
use Rattle.wc_record.specs.Private.ListedInterfaces.{id_at}

abbrev pub invariant-loop-position : goal.invariant-loop-position
invariant-loop-position l = interface_ids l.found.items ≡ map (id_at (interface_ids l.interfaces)) (take l.position-index l.positions)
