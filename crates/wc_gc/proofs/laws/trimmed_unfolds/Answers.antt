use Rattle.wc_gc.proofs.ClosedImageLemmas.{trimmed_is_closed, trimmed_unfolds}
use Rattle.wc_gc.proofs.laws.trimmed_unfolds.Goals as goal

pub returns-clause-closed : goal.returns-clause-closed
returns-clause-closed c = trimmed_is_closed

pub returns-clause-unfolds : goal.returns-clause-unfolds
returns-clause-unfolds c = trimmed_unfolds
