use Rattle.wc_read.specs.Modules.{module_value}
use Rattle.wc_read.specs.Sections.{section_values}
use Rattle.wc_segments.proofs.SegmentsLemmas.{result_place, result_refused}
use Rattle.wc_segments.proofs.segments.read_segments.Goals as goal

pub returns-in-Ok-clause-refused : goal.returns-in-Ok-clause-refused
returns-in-Ok-clause-refused c =
    result_refused (module_value c.args.«module».now) _ (section_values c.in-Ok.frames.sections.items) _ c.in-Ok.ensures.found
    (rw c.deref.ensures.value at c.segments_in.ensures.fault)

pub returns-in-Ok-clause-place : goal.returns-in-Ok-clause-place
returns-in-Ok-clause-place c =
    result_place (module_value c.args.«module».now) _ (section_values c.in-Ok.frames.sections.items) _ c.in-Ok.ensures.found
    (rw c.deref.ensures.value at c.segments_in.ensures.fault)

pub returns-in-Err-clause-refused : goal.returns-in-Err-clause-refused
returns-in-Err-clause-refused c = rw c.without_place.ensures.fault (λ real v s. c.in-Err.ensures.refused real s.sections s.has_frames)

pub returns-in-Err-clause-place : goal.returns-in-Err-clause-place
returns-in-Err-clause-place c = rw (c.without_place.ensures.fault, c.without_place.ensures.place) c.in-Err.ensures.refused
