use Rattle.std.proofs.Common.{◌∙◌, [], get_or, take_all, ap, arith}
use Rattle.wc_gc.specs.Ranges.{in_ranges}
use Rattle.wc_gc.proofs.RangeLemmas.{ranges_from}
use Rattle.wc_gc.proofs.MergingLemmas.{begun_later, piece_more}
use Rattle.wc_gc.proofs.merging.merge.Goals as goal

pub loop-piece-init : goal.loop-piece-init
loop-piece-init c = record {
  sorted = rw c.new-merged.ensures.items (ranges_from 0 [] tt);
  begun = λ j le lt. rw c.new-merged.ensures.items (λ k d less. absurd (omega arith));
  has = λ y. ap (λ rs. in_ranges rs y) c.new-merged.ensures.items;
}

pub append_range-requires-clause-filled : goal.append_range-requires-clause-filled
append_range-requires-clause-filled c =
    let filled = c.requires.filled c.loop-piece.piece-index (0, 0) c.loop-piece-test.true in
    let first = c.first_of.ensures in
    let last = c.last_of.ensures in
    omega (arith, filled, first, last)

pub append_range-requires-clause-begun : goal.append_range-requires-clause-begun
append_range-requires-clause-begun c = rw c.first_of.ensures (c.loop-piece.invariant.begun c.loop-piece.piece-index (omega arith) c.loop-piece-test.true)

pub loop-piece-preserved : goal.loop-piece-preserved
loop-piece-preserved c =
    let first = c.first_of.ensures in
    record {
      sorted = c.in_ok-append_range.ensures.sorted;
      begun = λ j le lt.
          let later = c.requires.ordered c.loop-piece.piece-index j (0, 0) (omega (arith, le)) lt in
          begun_later c.first_of.result (get_or c.args.pieces.now j (0, 0)).0 _ c.in_ok-append_range.ensures.begun (omega (arith, later, first));
      has = λ y. piece_more c.args.pieces.now c.loop-piece.merged.items _ c.loop-piece.piece-index y c.first_of.result c.last_of.result c.loop-piece-test.true (c.in_ok-append_range.ensures.has y) (c.loop-piece.invariant.has y) c.first_of.ensures c.last_of.ensures;
    }

pub returns-clause-has : goal.returns-clause-has
returns-clause-has c = λ y. c.loop-piece.invariant.has y ∙ ap (λ rs. in_ranges rs y) (take_all _ _ c.loop-piece-test.false)
