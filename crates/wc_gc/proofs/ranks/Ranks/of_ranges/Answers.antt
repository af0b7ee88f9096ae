use Rattle.std.proofs.Common.{◌≡◌, ◌<◌, ◌+◌, ◌-◌, ℕ, List, length, get_or, arith, sym, subst, ◌∙◌, ap}
use Rattle.wc_gc.specs.Ranges.{in_ranges}
use Rattle.wc_gc.specs.Counts.{count_below}
use Rattle.wc_gc.proofs.RangeRankLemmas.{none_first, first_rank, total_more, each_more, IsTotal}
use Rattle.wc_gc.proofs.RankLemmas.{bounded_below}
use Rattle.wc_gc.proofs.ranks.Ranks.of_ranges.Goals as goal

pub loop-range-init : goal.loop-range-init
loop-range-init c = record {
  long = ap length c.in_ok-before.ensures.items;
  each = λ i lt. absurd (omega arith);
  counted = λ y before after. sym (none_first c.args.ranges.now y after);
}

pub overflow_cast-total : goal.overflow_cast-total
overflow_cast-total c =
    let v = c.loop-range.invariant in
    let first = first_rank c.args.ranges.now c.requires c.loop-range.range-index c.loop-range.total (0, 0) c.loop-range-test.true v.counted in
    let bounded = bounded_below (in_ranges c.args.ranges.now) (get_or c.args.ranges.now c.loop-range.range-index (0, 0)).0 in
    let small = c.first_of-first.type_inv in
    let is = c.first_of-first.ensures in
    omega (arith, first, bounded, small, is)

pub overflow_add-total-in-loop-range : goal.overflow_add-total-in-loop-range
overflow_add-total-in-loop-range c =
    let v = c.loop-range.invariant in
    let first = first_rank c.args.ranges.now c.requires c.loop-range.range-index c.loop-range.total (0, 0) c.loop-range-test.true v.counted in
    let bounded = bounded_below (in_ranges c.args.ranges.now) (get_or c.args.ranges.now c.loop-range.range-index (0, 0)).0 in
    let small = c.first_of-first.type_inv in
    let is = c.first_of-first.ensures in
    let large = c.last_of.type_inv in
    let from = c.from.ensures in
    omega (arith, first, bounded, small, is, large, from)

pub loop-range-preserved : goal.loop-range-preserved
loop-range-preserved c =
    let v = c.loop-range.invariant in
    let lt = c.loop-range-test.true in
    let first = first_rank c.args.ranges.now c.requires c.loop-range.range-index c.loop-range.total (0, 0) c.loop-range-test.true v.counted in
    let more = total_more c.args.ranges.now c.requires c.loop-range.range-index c.loop-range.total (0, 0) c.loop-range-test.true v.counted in
    record {
      long = search (arith, c.in_ok-push.ensures.len, v.long);
      each = subst (λ (z : List ℕ). (i : ℕ) → i < c.loop-range.range-index + 1 → get_or z i 0 ≡ count_below (in_ranges c.args.ranges.now) (get_or c.args.ranges.now i (0, 0)).0) (sym c.in_ok-push.ensures.items)
          (each_more (λ i. count_below (in_ranges c.args.ranges.now) (get_or c.args.ranges.now i (0, 0)).0) c.loop-range.before.items c.loop-range.total c.loop-range.range-index v.long v.each first);
      counted = subst (λ (z : ℕ). IsTotal c.args.ranges.now (c.loop-range.range-index + 1) (c.loop-range.total + (z + 1))) (let e : (get_or c.args.ranges.now c.loop-range.range-index (0, 0)).1 - (get_or c.args.ranges.now c.loop-range.range-index (0, 0)).0 ≡ c.from.result = omega (arith, c.from.ensures, c.first_of-first.ensures, c.last_of.ensures) in e) more;
    }

pub invariant_of-result : goal.invariant_of-result
invariant_of-result c =
    let v = c.loop-range.invariant in
    let e = c.in_ok-ranges.ensures.items in
    let done = c.loop-range-test.false in
    let end = c.loop-range.auto.range-index-end in
    record {
      sorted = rw e c.requires;
      long = v.long ∙ (let all : c.loop-range.range-index ≡ length c.args.ranges.now = omega (arith, done, end) in all) ∙ ap length (sym e);
      each = rw e (λ i lt. v.each i (omega (arith, done)));
      whole = rw e (λ x all. v.counted x (λ k d lt. all k d (omega (arith, end))) (λ k d le lt. absurd (omega (arith, done))));
      filled = c.block_of-block.ensures;
      begins = rw e c.in_ok-starts.ensures;
    }
