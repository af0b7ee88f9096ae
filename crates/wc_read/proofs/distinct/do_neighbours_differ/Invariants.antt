use Rattle.std.proofs.Common.{ℕ, ◌+◌, ◌<◌, ◌≢◌, List, get_or, Bor}
use Rattle.wc_read.proofs.distinct.do_neighbours_differ.Given as goal

abbrev pub invariant-loop-index : goal.invariant-loop-index
invariant-loop-index l = (k : ℕ) (d : Bor (List ℕ)) → k + 1 < l.index → (get_or l.names k d).now ≢ (get_or l.names (k + 1) d).now
