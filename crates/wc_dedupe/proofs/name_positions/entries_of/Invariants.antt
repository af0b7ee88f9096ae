use Rattle.wc_dedupe.specs.Private.NamePositions.{names_of, AreEntries}
use Rattle.wc_dedupe.proofs.name_positions.entries_of.Given as goal

abbrev pub invariant-loop-index : goal.invariant-loop-index
invariant-loop-index l = AreEntries (names_of l.names) l.index l.entries.items
