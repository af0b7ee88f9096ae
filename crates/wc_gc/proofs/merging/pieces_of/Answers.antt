use Rattle.std.proofs.Common.{◌∙◌, ap, sym}
use Rattle.std.proofs.Math.Bool.{or-false}
use Rattle.wc_gc.specs.Ranges.{in_ranges}
use Rattle.wc_gc.proofs.MergingLemmas.{filled_push, number_more}
use Rattle.wc_gc.proofs.merging.pieces_of.Goals as goal

pub loop-number-init : goal.loop-number-init
loop-number-init c = record {
  filled = rw c.in_ok-pieces.ensures.items c.requires;
  has = λ y. ap (λ rs. in_ranges rs y) c.in_ok-pieces.ensures.items ∙ sym (or-false (in_ranges c.args.ranges.now y));
}

pub loop-number-preserved : goal.loop-number-preserved
loop-number-preserved c = record {
  filled = rw c.in_ok-push.ensures.items (filled_push c.loop-number.pieces.items _ c.loop-number.invariant.filled);
  has = λ y. ap (λ rs. in_ranges rs y) c.in_ok-push.ensures.items ∙ number_more c.args.ranges.now c.loop-number.pieces.items c.args.numbers.now c.loop-number.number-index y c.loop-number-test.true (c.loop-number.invariant.has y);
}
