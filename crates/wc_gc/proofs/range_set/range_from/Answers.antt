use Rattle.std.proofs.Common.{◌<◌, ◌+◌, ◌-◌, ◌/◌, length, arith}
use Rattle.wc_gc.proofs.RangeLemmas.{cut_at, ends_before, ends_after}
use Rattle.wc_gc.proofs.range_set.range_from.Goals as goal

pub loop-low-preserved-then-ranges-middle : goal.loop-low-preserved-then-ranges-middle
loop-low-preserved-then-ranges-middle c =
    let v = c.loop-low.invariant in
    let test = c.loop-low-test.true in
    let within : c.loop-low.low + (c.loop-low.high - c.loop-low.low) / 2 < length c.args.ranges.now = omega (arith, v.within) in
    record {
      within = v.within;
      ordered = omega arith;
      before = λ k d lt. ends_before c.args.ranges.now c.requires k (c.loop-low.low + (c.loop-low.high - c.loop-low.low) / 2) c.args.x d (0, 0) (omega arith) within c.if-ranges-middle.true;
      after = v.after;
    }

pub loop-low-preserved : goal.loop-low-preserved
loop-low-preserved c =
    let v = c.loop-low.invariant in
    let test = c.loop-low-test.true in
    record {
      within = omega (arith, v.within);
      ordered = omega arith;
      before = v.before;
      after = λ k d le lt. ends_after c.args.ranges.now c.requires k (c.loop-low.low + (c.loop-low.high - c.loop-low.low) / 2) c.args.x d (0, 0) le lt c.if-ranges-middle.false;
    }

pub returns : goal.returns
returns c =
    let done = c.loop-low-test.false in
    let v = c.loop-low.invariant in
    record {
      cut = cut_at c.args.x c.args.ranges.now c.loop-low.low (omega (arith, v.within, v.ordered)) v.before (λ k d le lt. v.after k d (omega (arith, v.ordered)) lt);
      within = omega (arith, v.within, v.ordered);
    }
