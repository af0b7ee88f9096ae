use Rattle.wc_record.proofs.ListedInterfaceLemmas.{found_under}
use Rattle.wc_record.proofs.UsedLemmas.{IsGathered}
use Rattle.wc_record.proofs.listed_interfaces.listed_positions.Given as goal

abbrev pub invariant-loop-id : goal.invariant-loop-id
invariant-loop-id l = IsGathered (found_under l.positions.entries) l.set.keys l.id-iterator l.found.items
