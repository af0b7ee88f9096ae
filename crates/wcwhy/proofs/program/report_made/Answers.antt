use Rattle.std.proofs.Common.{inr, refl}
use Rattle.wc_texts.specs.FaultTexts.{memory_text}
use Rattle.wcwhy.proofs.program.report_made.Goals as goal

pub returns-in-Err : goal.returns-in-Err
returns-in-Err g c = (memory_text, inr (c.requires, refl), c.print_fault-in-Err.ensures)
