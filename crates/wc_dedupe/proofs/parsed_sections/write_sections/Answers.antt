use Rattle.std.proofs.Common.{refl}
use Rattle.std.proofs.lemmas.List.{drop_all}
use Rattle.std.proofs.lemmas.Result.{err_from_is_err_and}
use Rattle.wc_dedupe.specs.ParsedSections.{parsed_section_value}
use Rattle.wc_dedupe.proofs.WriteSectionsLemmas.{written_start, written_room, written_more, written_end, written_fits, written_too_large, after_cut, count_is, err_of}
use Rattle.wc_dedupe.proofs.parsed_sections.write_sections.Goals as goal

pub loop-part-init : goal.loop-part-init
loop-part-init c = rw (c.in_ok-extend_from_slice.ensures.items, c.in_ok-out.ensures.items) (written_start _ _ _ c.requires)

pub split_at-requires : goal.split_at-requires
split_at-requires c =
    let cut = after_cut _ _ _ c.loop-part-test.true c.part-item.is in
    let count = count_is _ (parsed_section_value c.part-item.result) c.imports_in.ensures in
    rw count (written_room _ _ _ _ _ _ _ (rw cut at c.loop-part.invariant))

pub returns-in_err-append_section-clause-too_large : goal.returns-in_err-append_section-clause-too_large
returns-in_err-append_section-clause-too_large c =
    let p = err_from_is_err_and c.from_residual-in_err-append_section.result c.from_residual-in_err-append_section.ensures.1 in
    let cut = after_cut _ _ _ c.loop-part-test.true c.part-item.is in
    let count = count_is _ (parsed_section_value c.part-item.result) c.imports_in.ensures in
    rw (p.1, p.2) (λ large. written_too_large _ _ _ _ _ _ _ (rw cut at c.loop-part.invariant) (rw (c.split_at.ensures.front, count) at (c.in_err-append_section.ensures.too_large (err_of _ _ large))))

pub loop-part-preserved : goal.loop-part-preserved
loop-part-preserved c =
    let cut = after_cut _ _ _ c.loop-part-test.true c.part-item.is in
    let count = count_is _ (parsed_section_value c.part-item.result) c.imports_in.ensures in
    rw (c.split_at.ensures.back, count) (written_more _ _ _ _ _ _ _ _ (rw cut at c.loop-part.invariant) (rw (c.split_at.ensures.front, count) at c.in_ok-append_section.ensures.written)
    (rw (c.split_at.ensures.front, count) at (c.in_ok-append_section.ensures.fits refl)))

pub returns-clause-written : goal.returns-clause-written
returns-clause-written c =
    let none = drop_all _ _ c.loop-part-test.false in
    written_end _ _ _ _ _ (rw none at c.loop-part.invariant)

pub returns-clause-fits : goal.returns-clause-fits
returns-clause-fits c =
    let none = drop_all _ _ c.loop-part-test.false in
    λ _. written_fits _ _ _ _ _ (rw none at c.loop-part.invariant)
