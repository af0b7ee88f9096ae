use Rattle.wc_gc.proofs.UntouchedLemmas.{calls_keep_code}
use Rattle.wc_gc.proofs.untouched_laws.calls_keep_code.Goals as goal

pub returns : goal.returns
returns c = calls_keep_code
