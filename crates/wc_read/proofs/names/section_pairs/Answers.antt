use Rattle.std.proofs.lemmas.List.{map-append}
use Rattle.wc_read.specs.Reading.Framing.{section_at}
use Rattle.wc_read.specs.Sections.{SpellsSection}
use Rattle.wc_read.proofs.SectionsLemmas.{section_meets, section_some}
use Rattle.wc_read.proofs.ToEndLemmas.{to_shorter}
use Rattle.wc_read.proofs.NamesReadLemmas.{names_other, names_more, names_faulty, names_end}
use Rattle.wc_read.proofs.names.section_pairs.Goals as goal

pub returns-in_default-clause-found : goal.returns-in_default-clause-found
returns-in_default-clause-found c = names_end _ _ _ _ c.loop-all.invariant (rw c.in_default.is at c.in_ok-subsection.ensures)

pub returns-then-not-pairs-clause-found : goal.returns-then-not-pairs-clause-found
returns-then-not-pairs-clause-found c =
    rw (c.in_ok-extend_from_slice.ensures.items, c.deref.ensures.value, map-append)
    (names_faulty _ _ _ _ _ _ _ c.loop-all.invariant (rw c.in-Some.is at c.in_ok-subsection.ensures) c.if-subsection-id.true (rw c.if-not-pairs.true at c.in_ok-pairs.ensures.found))

pub loop-all-smaller-then-subsection-id : goal.loop-all-smaller-then-subsection-id
loop-all-smaller-then-subsection-id c = to_shorter SpellsSection section_at section_meets section_some _ _ _ (rw c.in-Some.is at c.in_ok-subsection.ensures)

pub loop-all-preserved-then-subsection-id : goal.loop-all-preserved-then-subsection-id
loop-all-preserved-then-subsection-id c =
    rw (c.in_ok-extend_from_slice.ensures.items, c.deref.ensures.value, map-append)
    (names_more _ _ _ _ _ _ _ c.loop-all.invariant (rw c.in-Some.is at c.in_ok-subsection.ensures) c.if-subsection-id.true (rw c.if-not-pairs.false at c.in_ok-pairs.ensures.found))

pub loop-all-smaller : goal.loop-all-smaller
loop-all-smaller c = to_shorter SpellsSection section_at section_meets section_some _ _ _ (rw c.in-Some.is at c.in_ok-subsection.ensures)

pub loop-all-preserved : goal.loop-all-preserved
loop-all-preserved c = names_other _ _ _ _ _ _ c.loop-all.invariant (rw c.in-Some.is at c.in_ok-subsection.ensures) c.if-subsection-id.false
