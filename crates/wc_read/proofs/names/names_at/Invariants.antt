use Rattle.std.specs.Map.{keys_of}
use Rattle.wc_read.proofs.NamesAtLemmas.{AreEntriesAt}
use Rattle.wc_read.proofs.names.names_at.Given as goal

abbrev pub invariant-loop-named : goal.invariant-loop-named
invariant-loop-named l = AreEntriesAt (keys_of l.wanted.entries) l.named-items l.named-index l.names.entries
