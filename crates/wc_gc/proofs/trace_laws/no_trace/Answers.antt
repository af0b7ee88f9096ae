use Rattle.wc_gc.proofs.TraceLemmas.{no_trace}
use Rattle.wc_gc.proofs.trace_laws.no_trace.Goals as goal

pub returns : goal.returns
returns c = no_trace
