use Rattle.std.proofs.Common.{◌≡◌, ◌<◌, ℕ, get_or, length}
use Rattle.wc_graph.proofs.search.own_positions.Given as goal

abbrev pub invariant-loop-position : goal.invariant-loop-position
invariant-loop-position l = record {
  sized : length l.positions.items ≡ l.position;
  own : (k : ℕ) → k < l.position → get_or l.positions.items k 0 ≡ k;
}
