use Rattle.std.proofs.lemmas.List.{map-append}
use Rattle.wc_read.specs.Reading.Framing.{section_at}
use Rattle.wc_read.specs.Sections.{SpellsSection}
use Rattle.wc_read.proofs.SectionsLemmas.{section_meets, section_some}
use Rattle.wc_read.proofs.ToEndLemmas.{to_shorter}
use Rattle.wc_component_file.proofs.FramesLemmas.{frames_more, frames_end}
use Rattle.wc_component_file.proofs.frames.frames_after.Goals as goal

pub loop-reader-smaller : goal.loop-reader-smaller
loop-reader-smaller c = to_shorter SpellsSection section_at section_meets section_some _ _ _ c.in_ok-frame.ensures.0

pub loop-reader-preserved : goal.loop-reader-preserved
loop-reader-preserved c =
    rw (c.in_ok-push.ensures.items, map-append)
    (frames_more _ _ _ _ _ _ c.loop-reader.invariant c.in_ok-frame.ensures.0 c.in_ok-frame.ensures.1 c.in_ok-frame.ensures.2)

pub returns-clause-found : goal.returns-clause-found
returns-clause-found c = frames_end _ _ _ c.loop-reader.invariant c.loop-reader-test.ensures
