use Rattle.std.proofs.Common.{refl}
use Rattle.wctrim_command.proofs.program.WctrimProgramUnit.run_without.Goals as goal

pub returns-in-Empty-clause-ends : goal.returns-in-Empty-clause-ends
returns-in-Empty-clause-ends g c = rw c.in-Empty.is (refl, c.print.ensures)

pub returns-in-NoText-clause-ends : goal.returns-in-NoText-clause-ends
returns-in-NoText-clause-ends g c = rw c.in-NoText.is c.print-in-NoText.ensures
