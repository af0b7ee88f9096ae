use Rattle.std.proofs.Common.{map}
use Rattle.wc_read.specs.Reading.Names.{global_name_value}
use Rattle.wc_read.proofs.NamesReadLemmas.{AreNamesTo}
use Rattle.wc_read.proofs.names.all_pairs.Given as goal

abbrev pub invariant-loop-section : goal.invariant-loop-section
invariant-loop-section l = AreNamesTo l.id l.sections l.section-index (map global_name_value l.all.items)
