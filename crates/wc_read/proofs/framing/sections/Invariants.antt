use Rattle.std.proofs.Common.{length, map}
use Rattle.wc_read.specs.Sections.{section_value, SpellsSection}
use Rattle.wc_read.proofs.ToEndLemmas.{IsReadTo}
use Rattle.wc_read.proofs.framing.sections.Given as goal

abbrev pub invariant-loop-reader : goal.invariant-loop-reader
invariant-loop-reader l = IsReadTo SpellsSection (map section_value l.sections.items) l.reader.rest.now l.fn.bytes

abbrev pub decreases-loop-reader : goal.decreases-loop-reader
decreases-loop-reader l = length l.reader.rest.now
