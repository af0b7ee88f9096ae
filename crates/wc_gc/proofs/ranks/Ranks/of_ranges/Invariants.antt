use Rattle.std.proofs.Common.{◌≡◌, ◌<◌, ℕ, length, get_or}
use Rattle.wc_gc.specs.Ranges.{in_ranges}
use Rattle.wc_gc.specs.Counts.{count_below}
use Rattle.wc_gc.proofs.RangeRankLemmas.{IsTotal}
use Rattle.wc_gc.proofs.ranks.Ranks.of_ranges.Given as goal

abbrev pub invariant-loop-range : goal.invariant-loop-range
invariant-loop-range l = record {
  long : length l.before.items ≡ l.range-index;
  each : (i : ℕ) → i < l.range-index → get_or l.before.items i 0 ≡ count_below (in_ranges l.ranges) (get_or l.ranges i (0, 0)).0;
  counted : IsTotal l.ranges l.range-index l.total;
}
