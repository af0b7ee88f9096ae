use Rattle.wc_read.proofs.LocalRunsLemmas.{AreShortRuns}
use Rattle.wc_read.proofs.local_runs.after_short_runs.Given as goal

abbrev pub invariant-loop : goal.invariant-loop
invariant-loop l = AreShortRuns l.input l.end l.counter l.rest
