use Rattle.std.proofs.Common.{inr, rules}
use Rattle.wcwhy.proofs.fault.named_fault.Goals as goal

pub returns-in-Ok : goal.returns-in-Ok
returns-in-Ok c = inr (c.in-Ok.name, search rules, c.of_adapter.ensures)
