use Rattle.std.proofs.Common.{map, take}
use Rattle.std.specs.List.{All}
use Rattle.wc_resolve.specs.Explain.{DoesWorldFollow}
use Rattle.wc_resolve.specs.ResolveParts.{parts_view}
use Rattle.wc_resolve.specs.Views.{world_view}
use Rattle.wc_resolve.proofs.validate.first.first_world.Given as goal

abbrev pub invariant-loop-index : goal.invariant-loop-index
invariant-loop-index l = All (DoesWorldFollow (parts_view l.parts) l.fault) (map world_view (take l.index l.worlds))
