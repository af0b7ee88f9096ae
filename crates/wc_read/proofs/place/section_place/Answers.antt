use Rattle.wc_read.specs.Reading.Framing.{section_at}
use Rattle.wc_read.specs.Sections.{SpellsSection}
use Rattle.wc_read.proofs.PlaceLemmas.{none_read, one_read, more_read}
use Rattle.wc_read.proofs.SectionsLemmas.{section_meets, section_some}
use Rattle.wc_read.proofs.ToEndLemmas.{to_shorter}
use Rattle.wc_read.proofs.place.section_place.Goals as goal

pub loop-reader-init : goal.loop-reader-init
loop-reader-init c = rw c.new-reader.ensures (none_read _ _ c.requires)

pub inside-requires-clause-read : goal.inside-requires-clause-read
inside-requires-clause-read c = one_read _ _ _ _ c.loop-reader.invariant c.in-Ok.ensures

pub loop-reader-smaller : goal.loop-reader-smaller
loop-reader-smaller c = to_shorter SpellsSection section_at section_meets section_some _ _ _ c.in-Ok.ensures

pub loop-reader-preserved : goal.loop-reader-preserved
loop-reader-preserved c = more_read _ _ _ (one_read _ _ _ _ c.loop-reader.invariant c.in-Ok.ensures)
