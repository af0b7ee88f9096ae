use Rattle.std.proofs.Common.{arith}
use Rattle.wc_read.specs.Sections.{section_value}
use Rattle.wc_read.specs.declared.fault.ReadFault.TheVariants.{Truncated, BadNumber, UnknownSection}
use Rattle.wc_component_file.proofs.FramesLemmas.{bad_id, bad_size, cut_off, section_lengths}
use Rattle.wc_component_file.proofs.frames.next_frame.Goals as goal

pub returns-then-section-gt-LAST_ID : goal.returns-then-section-gt-LAST_ID
returns-then-section-gt-LAST_ID c =
    (UnknownSection, c.refused_at.ensures.fault, c.refused_at.ensures.byte, bad_id _ (section_value c.in-Ok.section) _ c.in-Ok.ensures c.if-section-gt-LAST_ID.true)

pub overflow_sub-result : goal.overflow_sub-result
overflow_sub-result c = omega (arith, c.requires, section_lengths _ _ _ c.in-Ok.ensures)

pub overflow_sub-result-in-Ok : goal.overflow_sub-result-in-Ok
overflow_sub-result-in-Ok c = omega (arith, c.requires, section_lengths _ _ _ c.in-Ok.ensures)

pub returns-in-Err-BadNumber : goal.returns-in-Err-BadNumber
returns-in-Err-BadNumber c =
    (BadNumber, c.refused_at-in-Err-BadNumber.ensures.fault, c.refused_at-in-Err-BadNumber.ensures.byte, bad_size _ c.in-Err-BadNumber.ensures.0)

pub returns-in-Err : goal.returns-in-Err
returns-in-Err c = (Truncated, c.refused_at-in-Err.ensures.fault, c.refused_at-in-Err.ensures.byte, cut_off _ c.in-Err.ensures.0)
