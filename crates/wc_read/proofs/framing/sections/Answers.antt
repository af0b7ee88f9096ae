use Rattle.std.proofs.lemmas.List.{map-append}
use Rattle.std.proofs.lemmas.Result.{err_from_is_err_and}
use Rattle.wc_read.specs.Reading.Framing.{section_at}
use Rattle.wc_read.specs.Sections.{SpellsSection}
use Rattle.wc_read.proofs.SectionsLemmas.{section_meets, section_some}
use Rattle.wc_read.proofs.ToEndLemmas.{to_end, to_more, to_fails, to_shorter}
use Rattle.wc_read.proofs.framing.sections.Goals as goal

pub returns-in_err-section-clause-refused : goal.returns-in_err-section-clause-refused
returns-in_err-section-clause-refused c =
    let p = err_from_is_err_and c.from_residual.result c.from_residual.ensures.1 in
    rw (p.1, p.2) (λ real. to_fails SpellsSection section_at section_meets section_some _ _ _ c.loop-reader-test.ensures c.loop-reader.invariant c.in_err-section.ensures.0)

pub loop-reader-smaller : goal.loop-reader-smaller
loop-reader-smaller c = to_shorter SpellsSection section_at section_meets section_some _ _ _ c.in_ok-section.ensures

pub loop-reader-preserved : goal.loop-reader-preserved
loop-reader-preserved c =
    rw (c.in_ok-push.ensures.items, map-append) (to_more SpellsSection section_at section_meets section_some _ _ _ _ _ c.loop-reader.invariant c.in_ok-section.ensures)

pub returns-clause-found : goal.returns-clause-found
returns-clause-found c = to_end SpellsSection _ _ _ c.loop-reader-test.ensures c.loop-reader.invariant
