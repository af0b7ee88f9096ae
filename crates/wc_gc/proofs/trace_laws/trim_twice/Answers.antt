use Rattle.wc_gc.proofs.TwiceLemmas.{trim_twice}
use Rattle.wc_gc.proofs.trace_laws.trim_twice.Goals as goal

pub returns : goal.returns
returns c = trim_twice
