use Rattle.std.proofs.Common.{map, take}
use Rattle.std.specs.List.{All}
use Rattle.wc_resolve.specs.Explain.{DoesInterfaceFollow}
use Rattle.wc_resolve.specs.ResolveParts.{parts_view}
use Rattle.wc_resolve.specs.Views.{interface_view}
use Rattle.wc_resolve.proofs.validate.first.first_interface.Given as goal

abbrev pub invariant-loop-index : goal.invariant-loop-index
invariant-loop-index l = All (DoesInterfaceFollow (parts_view l.parts) l.fault) (map interface_view (take l.index l.interfaces))
