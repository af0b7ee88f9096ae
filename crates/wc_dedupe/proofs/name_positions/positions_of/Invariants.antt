use Rattle.wc_dedupe.proofs.NamePositionLemmas.{IsWalked}
use Rattle.wc_dedupe.proofs.name_positions.positions_of.Given as goal

abbrev pub invariant-loop-entry : goal.invariant-loop-entry
invariant-loop-entry l = IsWalked l.entries l.entry-index l.distinct.items l.positions.items
