use Rattle.std.proofs.Common.{map, take}
use Rattle.std.specs.List.{All}
use Rattle.wc_resolve.specs.Explain.{DoesTypeFollow}
use Rattle.wc_resolve.specs.ResolveParts.{parts_view}
use Rattle.wc_resolve.specs.Views.{type_view}
use Rattle.wc_resolve.proofs.validate.first.first_type.Given as goal

abbrev pub invariant-loop-index : goal.invariant-loop-index
invariant-loop-index l = All (DoesTypeFollow (parts_view l.parts) l.fault) (map type_view (take l.index l.types))
