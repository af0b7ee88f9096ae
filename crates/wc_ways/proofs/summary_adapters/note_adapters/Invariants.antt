use Rattle.std.proofs.Common.{map}
use Rattle.wc_world.specs.WorldViews.{adapter_entry, world_view}
use Rattle.wc_summary.specs.Entries.{entries_view}
use Rattle.wc_ways.proofs.AdapterNoteLemmas.{AdaptersSoFar}
use Rattle.wc_ways.proofs.summary_adapters.note_adapters.Given as goal

abbrev pub invariant-loop-name : goal.invariant-loop-name
invariant-loop-name l = AdaptersSoFar (world_view l.world) (map adapter_entry l.name-iterator) (entries_view l.fn.entries.entries) (entries_view l.entries.entries)
