use Rattle.wc_gc.proofs.UntouchedLemmas.{unedited_unfold, untouched_unfold}
use Rattle.wc_gc.proofs.UntouchedLiveLemmas.{live_unfold}
use Rattle.wc_gc.proofs.untouched_laws.untouched.Goals as goal

pub returns-clause-sets : goal.returns-clause-sets
returns-clause-sets c = untouched_unfold

pub returns-clause-references : goal.returns-clause-references
returns-clause-references c = unedited_unfold

pub returns-clause-live : goal.returns-clause-live
returns-clause-live c = live_unfold
