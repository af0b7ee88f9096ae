use Rattle.std.proofs.Common.{length}
use Rattle.wc_read.specs.Private.Places.{AreSectionsRead}
use Rattle.wc_read.proofs.place.section_place.Given as goal

abbrev pub invariant-loop-reader : goal.invariant-loop-reader
invariant-loop-reader l = AreSectionsRead l.fn.bytes l.reader.rest.now

abbrev pub decreases-loop-reader : goal.decreases-loop-reader
decreases-loop-reader l = length l.reader.rest.now
