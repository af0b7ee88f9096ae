use Rattle.std.proofs.Common.{◌≡◌}
use Rattle.wc_resolve.proofs.FlatStepLemmas.{joined_first}
use Rattle.wc_resolve.proofs.flat.join_flat.Given as goal

abbrev pub invariant-loop-index : goal.invariant-loop-index
invariant-loop-index l = l.flat.items ≡ joined_first l.index l.fn.flat.items l.more
