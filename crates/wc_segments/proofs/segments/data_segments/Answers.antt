use Rattle.std.proofs.Common.{map}
use Rattle.std.proofs.lemmas.Result.{err_from_is_err_and}
use Rattle.wc_read.specs.Modules.{module_value}
use Rattle.wc_read.specs.Sections.{section_values}
use Rattle.wc_segments.specs.Data.{data_value, SpellsData}
use Rattle.wc_segments.specs.Reading.Data.{data_at}
use Rattle.wc_segments.specs.Validity.{segment_scope, IsData}
use Rattle.wc_segments.proofs.DataLemmas.{data_meets}
use Rattle.wc_segments.proofs.SegmentsLemmas.{items_are, no_items, other_items}
use Rattle.wc_segments.proofs.segments.data_segments.Goals as goal

pub returns-in_err-data : goal.returns-in_err-data
returns-in_err-data c =
    let m = module_value c.args.«module».now in
    let p = err_from_is_err_and c.from_residual.result c.from_residual.ensures.1 in
    rw (p.1, p.2) (
      (λ real. no_items SpellsData data_at data_meets 11 (section_values c.args.sections.now) (IsData (segment_scope m) m.memories) (c.in_err-data.ensures.0 real)),
      c.in_err-data.ensures.1,
    )

pub returns-in_err-check_data : goal.returns-in_err-check_data
returns-in_err-check_data c =
    let m = module_value c.args.«module».now in
    let p = err_from_is_err_and c.from_residual-in_err-check_data.result c.from_residual-in_err-check_data.ensures.1 in
    let checked = rw (c.segment_scope-scope.ensures, c.deref.ensures.value, c.deref-2.ensures.value) at c.in_err-check_data.ensures in
    rw (p.1, p.2) (
      (λ real. other_items SpellsData data_at data_meets 11 (section_values c.args.sections.now) (IsData (segment_scope m) m.memories) (map data_value c.in_ok-data.«data».items)
          c.in_ok-data.ensures (checked.0 real)),
      checked.1,
    )

pub returns : goal.returns
returns c =
    let m = module_value c.args.«module».now in
    items_are SpellsData data_at data_meets 11 (section_values c.args.sections.now) (IsData (segment_scope m) m.memories) (map data_value c.in_ok-data.«data».items) c.in_ok-data.ensures
    (rw (c.segment_scope-scope.ensures, c.deref.ensures.value, c.deref-2.ensures.value) at c.in_ok-check_data.ensures)
