use Rattle.std.proofs.Common.{◌<◌}
use Rattle.wc_read.proofs.LocalRunsLemmas.{AreRunsPassed}
use Rattle.wc_read.proofs.reader.Reader.pass_any_locals.Given as goal

abbrev pub invariant-loop : goal.invariant-loop
invariant-loop l = AreRunsPassed l.fn.self.rest.now l.count l.counter l.self.rest.now l.total l.is_text × (l.total < 4294967296)
