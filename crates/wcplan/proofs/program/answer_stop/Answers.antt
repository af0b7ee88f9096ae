use Rattle.std.proofs.Common.{refl}
use Rattle.wcplan.proofs.program.answer_stop.Goals as goal

pub returns-in-Memory : goal.returns-in-Memory
returns-in-Memory g c = rw c.in-Memory.is (refl, c.print_fault.ensures)

pub returns-in-Help : goal.returns-in-Help
returns-in-Help g c = rw c.in-Help.is c.print_help.ensures

pub returns-in-Version : goal.returns-in-Version
returns-in-Version g c = rw c.in-Version.is c.print_asked.ensures
