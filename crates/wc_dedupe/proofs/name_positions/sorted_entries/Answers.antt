use Rattle.wc_dedupe.proofs.NamePositionLemmas.{entries_sorted}
use Rattle.wc_dedupe.proofs.name_positions.sorted_entries.Goals as goal

pub returns-clause-entries : goal.returns-clause-entries
returns-clause-entries c = entries_sorted _ _ _ _ c.in_ok-sort.ensures.permutation c.in_ok-entries.ensures
