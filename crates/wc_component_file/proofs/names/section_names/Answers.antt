use Rattle.std.proofs.lemmas.List.{map-append}
use Rattle.wc_read.specs.Reading.Framing.{section_at}
use Rattle.wc_read.specs.Sections.{SpellsSection}
use Rattle.wc_read.proofs.SectionsLemmas.{section_meets, section_some}
use Rattle.wc_read.proofs.ToEndLemmas.{to_shorter}
use Rattle.wc_component_file.proofs.NamesLemmas.{names_other, names_more, names_faulty, names_end}
use Rattle.wc_component_file.proofs.names.section_names.Goals as goal

pub returns-in_default : goal.returns-in_default
returns-in_default c = names_end _ _ _ c.loop-subsection.invariant c.in_default.ensures.0

pub returns-then-not-pairs : goal.returns-then-not-pairs
returns-then-not-pairs c =
    rw (c.in_ok-extend_from_slice.ensures.items, c.deref.ensures.value, map-append)
    (names_faulty _ _ _ _ _ _ _ c.loop-subsection.invariant c.in-Ok.ensures (rw c.in-Some.is at c.names_after_sort.ensures) (rw c.if-not-pairs.true at c.in_ok-pairs.ensures))

pub loop-subsection-smaller-in-Some : goal.loop-subsection-smaller-in-Some
loop-subsection-smaller-in-Some c = to_shorter SpellsSection section_at section_meets section_some _ _ _ c.in-Ok.ensures

pub loop-subsection-preserved-in-Some : goal.loop-subsection-preserved-in-Some
loop-subsection-preserved-in-Some c =
    rw (c.in_ok-extend_from_slice.ensures.items, c.deref.ensures.value, map-append)
    (names_more _ _ _ _ _ _ _ c.loop-subsection.invariant c.in-Ok.ensures (rw c.in-Some.is at c.names_after_sort.ensures) (rw c.if-not-pairs.false at c.in_ok-pairs.ensures))

pub loop-subsection-smaller : goal.loop-subsection-smaller
loop-subsection-smaller c = to_shorter SpellsSection section_at section_meets section_some _ _ _ c.in-Ok.ensures

pub loop-subsection-preserved : goal.loop-subsection-preserved
loop-subsection-preserved c = names_other _ _ _ _ _ c.loop-subsection.invariant c.in-Ok.ensures (rw c.in_default-names_after_sort.is at c.names_after_sort.ensures)
