use Rattle.wc_gc.proofs.UnfoldingLemmas.{renumbered_unfolds}
use Rattle.wc_gc.proofs.laws.renumbered_unfolds.Goals as goal

pub returns : goal.returns
returns c = renumbered_unfolds
