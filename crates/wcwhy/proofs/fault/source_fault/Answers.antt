use Rattle.std.proofs.Common.{inr}
use Rattle.wcwhy.proofs.fault.source_fault.Goals as goal

pub returns-in-Ok : goal.returns-in-Ok
returns-in-Ok c = inr (c.in-Ok.near, c.in-Ok.ensures, c.refused_fault.ensures)
