use Rattle.std.proofs.Common.{inr, refl}
use Rattle.wcwhy.proofs.program.answer_stop.Goals as goal

pub returns-in-Memory : goal.returns-in-Memory
returns-in-Memory g c = rw c.in-Memory.is (refl, c.print_fault.ensures)

pub returns-in-Help : goal.returns-in-Help
returns-in-Help g c = rw c.in-Help.is (c.print_help.ensures, refl)

pub returns-in-Version : goal.returns-in-Version
returns-in-Version g c = rw c.in-Version.is (c.print.ensures, refl)

pub returns-in-Err : goal.returns-in-Err
returns-in-Err g c = rw c.in-Wrong.is (inr (refl, c.print_fault-in-Err.ensures))
