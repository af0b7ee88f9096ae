use Rattle.std.proofs.Common.{inr, refl}
use Rattle.wctrim_command.proofs.program.WctrimProgramUnit.run_with.Goals as goal

pub returns-in-Err : goal.returns-in-Err
returns-in-Err g c = inr (c.in-Err.ensures.usage, refl, c.print.ensures)
