use Rattle.std.proofs.Common.{inl}
use Rattle.wcplan.proofs.program.report.Goals as goal

pub returns-in-Some : goal.returns-in-Some
returns-in-Some g c = (c.in-Some.text.now, inl c.in-Some.ensures.whole, c.print_fault.ensures)
