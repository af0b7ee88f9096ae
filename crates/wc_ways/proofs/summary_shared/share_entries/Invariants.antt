use Rattle.std.proofs.Common.{map}
use Rattle.wc_world.specs.WorldViews.{imported_entry, world_view}
use Rattle.wc_summary.specs.Entries.{entries_view}
use Rattle.wc_ways.proofs.SharedLemmas.{SharedSoFar}
use Rattle.wc_ways.proofs.summary_shared.share_entries.Given as goal

abbrev pub invariant-loop-name : goal.invariant-loop-name
invariant-loop-name l = SharedSoFar (world_view l.world) (map imported_entry l.name-iterator) (entries_view l.fn.entries.entries) (entries_view l.entries.entries)
