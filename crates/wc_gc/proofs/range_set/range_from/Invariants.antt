use Rattle.std.proofs.Common.{◌-◌, ◌≤◌, ◌<◌, ℕ, length, get_or}
use Rattle.wc_gc.proofs.range_set.range_from.Given as goal

abbrev pub invariant-loop-low : goal.invariant-loop-low
invariant-loop-low l = record {
  within : l.high ≤ length l.ranges;
  ordered : l.low ≤ l.high;
  before : (k : ℕ) (d : ℕ × ℕ) → k < l.low → (get_or l.ranges k d).1 < l.x;
  after : (k : ℕ) (d : ℕ × ℕ) → l.high ≤ k → k < length l.ranges → l.x ≤ (get_or l.ranges k d).1;
}

abbrev pub decreases-loop-low : goal.decreases-loop-low
decreases-loop-low l = l.high - l.low
