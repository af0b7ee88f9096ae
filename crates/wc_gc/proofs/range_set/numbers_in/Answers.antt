use Rattle.std.proofs.Common.{◌≡◌, length, arith}
use Rattle.wc_gc.proofs.NumbersBelowLemmas.{passed_start, passed_more, passed_end}
use Rattle.wc_gc.proofs.range_set.numbers_in.Goals as goal

pub loop-range-init : goal.loop-range-init
loop-range-init c = rw c.new-numbers.ensures.items (passed_start c.args.ranges.now c.args.bound)

pub loop-range-preserved : goal.loop-range-preserved
loop-range-preserved c =
    rw (c.in_ok-append_numbers.ensures, c.end_below-end.ensures, c.first_of.ensures, c.last_of.ensures)
    (passed_more c.args.ranges.now c.requires c.loop-range.range-index c.args.bound c.loop-range.numbers.items (0, 0) c.loop-range-test.true c.loop-range.invariant)

pub returns : goal.returns
returns c =
    let done = c.loop-range-test.false in
    let end = c.loop-range.auto.range-index-end in
    passed_end c.args.ranges.now c.requires c.loop-range.range-index c.args.bound c.loop-range.numbers.items (let e : c.loop-range.range-index ≡ length c.args.ranges.now = omega (arith, done, end) in e) c.loop-range.invariant
