use Rattle.std.proofs.Common.{inl, inr}
use Rattle.wcwhy.specs.Private.Warnings.{said_view}
use Rattle.wcwhy.proofs.program.run_and_report.Goals as goal

pub returns-in-Ok : goal.returns-in-Ok
returns-in-Ok g c = inl (said_view c.in-Ok.said, c.in-Ok.ensures.done, c.report_said.ensures)

pub returns-in-Err : goal.returns-in-Err
returns-in-Err g c = inr (c.in-Err.fault, c.in-Err.ensures.fault, c.report_as.ensures)
