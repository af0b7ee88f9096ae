use Rattle.std.proofs.Common.{◌≡◌, ◌||◌, ℕ, take, nat_eq}
use Rattle.std.specs.List.{list_any}
use Rattle.wc_gc.specs.Ranges.{in_ranges}
use Rattle.wc_gc.specs.Private.Merging.{AreFilled}
use Rattle.wc_gc.proofs.merging.pieces_of.Given as goal

abbrev pub invariant-loop-number : goal.invariant-loop-number
invariant-loop-number l = record {
  filled : AreFilled l.pieces.items;
  has : (y : ℕ) → in_ranges l.pieces.items y ≡ (in_ranges l.ranges y || list_any (nat_eq y) (take l.number-index l.numbers));
}
