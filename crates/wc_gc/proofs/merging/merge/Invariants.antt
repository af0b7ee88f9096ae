use Rattle.std.proofs.Common.{◌≡◌, ◌≤◌, ◌<◌, ℕ, length, get_or, take}
use Rattle.wc_gc.specs.Ranges.{AreRanges, in_ranges}
use Rattle.wc_gc.specs.Private.Merging.{BeginBy}
use Rattle.wc_gc.proofs.merging.merge.Given as goal

abbrev pub invariant-loop-piece : goal.invariant-loop-piece
invariant-loop-piece l = record {
  sorted : AreRanges l.merged.items;
  begun : (j : ℕ) → l.piece-index ≤ j → j < length l.pieces → BeginBy (get_or l.pieces j (0, 0)).0 l.merged.items;
  has : (y : ℕ) → in_ranges l.merged.items y ≡ in_ranges (take l.piece-index l.pieces) y;
}
