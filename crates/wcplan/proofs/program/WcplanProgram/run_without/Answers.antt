use Rattle.std.proofs.Common.{refl}
use Rattle.wcplan.proofs.program.WcplanProgram.run_without.Goals as goal

pub returns-in-Empty-clause-ends : goal.returns-in-Empty-clause-ends
returns-in-Empty-clause-ends g c = rw c.in-Empty.is (refl, c.print_usage.ensures)

pub returns-in-NoMemory-clause-ends : goal.returns-in-NoMemory-clause-ends
returns-in-NoMemory-clause-ends g c = rw c.in-NoMemory.is (refl, c.print_fault.ensures)

pub returns-in-NoText-clause-ends : goal.returns-in-NoText-clause-ends
returns-in-NoText-clause-ends g c = rw c.in-NoText.is (refl, c.print_usage_fault.ensures)
