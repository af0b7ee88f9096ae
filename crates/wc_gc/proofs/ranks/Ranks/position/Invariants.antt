use Rattle.std.proofs.Common.{◌≡◌, ◌+◌, ◌<◌, ◌≤◌, ℕ, length, get_or}
use Rattle.wc_gc.proofs.ranks.Ranks.position.Given as goal

abbrev pub invariant-loop-passed : goal.invariant-loop-passed
invariant-loop-passed l = record {
  at : l.index ≡ l.start + l.passed;
  within : l.index ≤ length l.self.ranges.items;
  before : (k : ℕ) (d : ℕ × ℕ) → k < l.index → (get_or l.self.ranges.items k d).1 < l.x;
}
