use Rattle.std.proofs.Common.{◌∙◌, inl, inr, refl}
use Rattle.wc_texts.specs.FaultTexts.{memory_text}
use Rattle.wcplan.proofs.program.report_made.Goals as goal

pub returns-in-Ok : goal.returns-in-Ok
returns-in-Ok g c = (c.deref.result.now, inl (c.deref.ensures ∙ c.in-Ok.ensures), c.print_fault.ensures)

pub returns-in-Err : goal.returns-in-Err
returns-in-Err g c = (memory_text, inr (c.requires, refl), c.print_fault-in-Err.ensures)
