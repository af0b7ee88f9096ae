use Rattle.std.proofs.Common.{◌≡◌, ◌<◌, ◌≤◌, ◌+◌, ◌-◌, ◌^◌, ℕ, length}
use Rattle.wc_gc.proofs.RangeRankLemmas.{EndBefore, BeginAt}
use Rattle.wc_gc.proofs.ranks.Ranks.rank_counted.Given as goal

abbrev pub invariant-loop-low : goal.invariant-loop-low
invariant-loop-low l = record {
  within : l.high ≤ length l.self.ranges.items;
  ordered : l.low ≤ l.high;
  before : EndBefore l.self.ranges.items l.low l.x;
  after : BeginAt l.self.ranges.items l.high (l.x + 1);
  counted : (digits : ℕ) → length l.self.ranges.items < 2 ^ digits → (left : ℕ) × (l.probes + left ≡ digits) × (l.high - l.low < 2 ^ left);
  some : l.probes ≡ 0 → l.high - l.low ≡ length l.self.ranges.items;
  fits : length l.self.ranges.items < 2 ^ 64;
}

abbrev pub decreases-loop-low : goal.decreases-loop-low
decreases-loop-low l = l.high - l.low
