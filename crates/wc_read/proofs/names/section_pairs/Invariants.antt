use Rattle.std.proofs.Common.{length, map}
use Rattle.wc_read.specs.Reading.Names.{global_name_value}
use Rattle.wc_read.proofs.NamesReadLemmas.{AreNames}
use Rattle.wc_read.proofs.names.section_pairs.Given as goal

abbrev pub invariant-loop-all : goal.invariant-loop-all
invariant-loop-all l = AreNames l.id l.fn.bytes (map global_name_value l.all.items) l.reader.rest.now

abbrev pub decreases-loop-all : goal.decreases-loop-all
decreases-loop-all l = length l.reader.rest.now
