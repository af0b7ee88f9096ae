use Rattle.std.proofs.Common.{map}
use Rattle.wc_resolve.specs.Views.{world_view}
use Rattle.wc_selection.proofs.WorldPartLemmas.{PartsBelow}
use Rattle.wc_selection.proofs.world_parts.are_others_parts.Given as goal

abbrev pub invariant-loop-index : goal.invariant-loop-index
invariant-loop-index l = PartsBelow (map world_view l.worlds) l.index l.whole
