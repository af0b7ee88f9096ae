use Rattle.std.proofs.Common.{◌<◌, length, map}
use Rattle.wc_resolve.specs.Views.{world_view}
use Rattle.wc_selection.proofs.WorldPartLemmas.{FoundBelow}
use Rattle.wc_selection.proofs.world_parts.likely_whole.Given as goal

abbrev pub invariant-loop-index : goal.invariant-loop-index
invariant-loop-index l = record {
  there : l.whole < length l.worlds;
  found : FoundBelow (map world_view l.worlds) l.index l.whole;
}
