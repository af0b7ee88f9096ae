use Rattle.std.proofs.Common.{map}
use Rattle.wc_read.specs.Reading.Names.{global_name_value}
use Rattle.wc_read.proofs.NamesReadLemmas.{ArePairs}
use Rattle.wc_read.proofs.names.subsection_pairs.Given as goal

abbrev pub invariant-loop : goal.invariant-loop
invariant-loop l = ArePairs l.fn.content l.count (map global_name_value l.names.items) l.counter l.reader.rest.now
