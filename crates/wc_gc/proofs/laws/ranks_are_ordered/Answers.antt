use Rattle.wc_gc.proofs.RankLawLemmas.{ranks_differ, ranks_order}
use Rattle.wc_gc.proofs.laws.ranks_are_ordered.Goals as goal

pub returns-clause-differ : goal.returns-clause-differ
returns-clause-differ c = λ e. ranks_differ e

pub returns-clause-order : goal.returns-clause-order
returns-clause-order c = λ e. ranks_order e
