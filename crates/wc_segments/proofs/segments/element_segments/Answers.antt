use Rattle.std.proofs.Common.{map}
use Rattle.std.proofs.lemmas.Result.{err_from_is_err_and}
use Rattle.wc_read.specs.Modules.{module_value}
use Rattle.wc_read.specs.Sections.{section_values}
use Rattle.wc_segments.specs.Elements.{element_value, SpellsElement}
use Rattle.wc_segments.specs.Reading.Elements.{element_at}
use Rattle.wc_segments.specs.Validity.{segment_scope, IsElement}
use Rattle.wc_segments.proofs.ElementsLemmas.{element_meets}
use Rattle.wc_segments.proofs.SegmentsLemmas.{items_are, no_items, other_items}
use Rattle.wc_segments.proofs.segments.element_segments.Goals as goal

pub returns-in_err-elements : goal.returns-in_err-elements
returns-in_err-elements c =
    let m = module_value c.args.«module».now in
    let p = err_from_is_err_and c.from_residual.result c.from_residual.ensures.1 in
    rw (p.1, p.2) (
      (λ real. no_items SpellsElement element_at element_meets 9 (section_values c.args.sections.now) (IsElement (segment_scope m) m.tables) (c.in_err-elements.ensures.0 real)),
      c.in_err-elements.ensures.1,
    )

pub returns-in_err-check_elements : goal.returns-in_err-check_elements
returns-in_err-check_elements c =
    let m = module_value c.args.«module».now in
    let p = err_from_is_err_and c.from_residual-in_err-check_elements.result c.from_residual-in_err-check_elements.ensures.1 in
    let checked = rw (c.segment_scope-scope.ensures, c.deref.ensures.value, c.deref-2.ensures.value) at c.in_err-check_elements.ensures in
    rw (p.1, p.2) (
      (λ real. other_items SpellsElement element_at element_meets 9 (section_values c.args.sections.now) (IsElement (segment_scope m) m.tables) (map element_value c.in_ok-elements.elements.items)
          c.in_ok-elements.ensures (checked.0 real)),
      checked.1,
    )

pub returns : goal.returns
returns c =
    let m = module_value c.args.«module».now in
    items_are SpellsElement element_at element_meets 9 (section_values c.args.sections.now) (IsElement (segment_scope m) m.tables) (map element_value c.in_ok-elements.elements.items) c.in_ok-elements.ensures
    (rw (c.segment_scope-scope.ensures, c.deref.ensures.value, c.deref-2.ensures.value) at c.in_ok-check_elements.ensures)
