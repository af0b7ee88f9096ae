use Rattle.std.proofs.Common.{length}
use Rattle.wc_read.specs.Causes.{is_cause}
use Rattle.wc_read.specs.Reading.Contents.{section_contents_value}
use Rattle.wc_read.proofs.PlaceLemmas.{IsSearched}
use Rattle.wc_read.proofs.place.cause_place.Given as goal

abbrev pub invariant-loop-reader : goal.invariant-loop-reader
invariant-loop-reader l = IsSearched l.fn.bytes l.fn.rest l.reader.rest.now (is_cause (section_contents_value l.fn.contents) l.fn.fault)

abbrev pub decreases-loop-reader : goal.decreases-loop-reader
decreases-loop-reader l = length l.reader.rest.now
