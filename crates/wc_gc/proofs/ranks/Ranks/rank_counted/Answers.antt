use Rattle.std.proofs.Common.{◌<◌, ◌+◌, ◌-◌, ◌/◌, ℕ, length, arith}
use Rattle.wc_gc.specs.Ranges.{in_ranges}
use Rattle.wc_gc.specs.Counts.{count_below}
use Rattle.wc_gc.proofs.RangeRankLemmas.{probe_less, probe_more, probe_counted, probe_found, found_rank}
use Rattle.wc_gc.proofs.RankLemmas.{bounded_below}
use Rattle.wc_gc.proofs.ranks.Ranks.rank_counted.Goals as goal

pub overflow_add-probes : goal.overflow_add-probes
overflow_add-probes c =
    let v = c.loop-low.invariant in
    let left = v.counted 64 v.fits in
    let sum = left.1 in
    omega (arith, sum)

pub loop-low-preserved-then-x-first : goal.loop-low-preserved-then-x-first
loop-low-preserved-then-x-first c =
    let v = c.loop-low.invariant in
    let s = c.args.self.now in
    let test = c.loop-low-test.true in
    let m : ℕ = c.loop-low.low + (c.loop-low.high - c.loop-low.low) / 2 in
    let lt : c.loop-low.low + (c.loop-low.high - c.loop-low.low) / 2 < length s.ranges.items = omega (arith, v.within) in
    record {
      within = omega (arith, v.within);
      ordered = omega arith;
      before = v.before;
      after = probe_less s.ranges.items s.sorted (c.loop-low.low + (c.loop-low.high - c.loop-low.low) / 2) c.args.x c.loop-low.high c.index.result.now c.index.ensures (omega arith) lt c.if-x-first.true;
      counted = probe_counted (length s.ranges.items) c.loop-low.probes (c.loop-low.high - c.loop-low.low) (c.loop-low.low + (c.loop-low.high - c.loop-low.low) / 2 - c.loop-low.low) (omega arith) (omega arith) v.counted;
      some = λ e. absurd (omega arith);
      fits = v.fits;
    }

pub loop-low-preserved : goal.loop-low-preserved
loop-low-preserved c =
    let v = c.loop-low.invariant in
    let s = c.args.self.now in
    let test = c.loop-low-test.true in
    let lt : c.loop-low.low + (c.loop-low.high - c.loop-low.low) / 2 < length s.ranges.items = omega (arith, v.within) in
    record {
      within = v.within;
      ordered = omega arith;
      before = probe_more s.ranges.items s.sorted (c.loop-low.low + (c.loop-low.high - c.loop-low.low) / 2) c.args.x c.index.result.now c.index.ensures lt c.if-last-x.true;
      after = v.after;
      counted = probe_counted (length s.ranges.items) c.loop-low.probes (c.loop-low.high - c.loop-low.low) (c.loop-low.high - (c.loop-low.low + (c.loop-low.high - c.loop-low.low) / 2 + 1)) (omega arith) (omega arith) v.counted;
      some = λ e. absurd (omega arith);
      fits = v.fits;
    }

pub returns-else-last-x-clause-rank : goal.returns-else-last-x-clause-rank
returns-else-last-x-clause-rank c =
    let v = c.loop-low.invariant in
    let s = c.args.self.now in
    let test = c.loop-low-test.true in
    let lt : c.loop-low.low + (c.loop-low.high - c.loop-low.low) / 2 < length s.ranges.items = omega (arith, v.within) in
    let found = probe_found s.ranges.items s.before.items s.long s.each (c.loop-low.low + (c.loop-low.high - c.loop-low.low) / 2) c.args.x c.index.result.now c.index.ensures lt c.if-x-first.false c.if-last-x.false in
    found_rank s.before.items (c.loop-low.low + (c.loop-low.high - c.loop-low.low) / 2) c.index-else-last-x.result.now (c.args.x - c.index.result.now.0) (count_below (in_ranges s.ranges.items) c.args.x) (omega (arith, lt, s.long)) c.index-else-last-x.ensures found

pub overflow_add-result : goal.overflow_add-result
overflow_add-result c =
    let v = c.loop-low.invariant in
    let s = c.args.self.now in
    let test = c.loop-low-test.true in
    let lt : c.loop-low.low + (c.loop-low.high - c.loop-low.low) / 2 < length s.ranges.items = omega (arith, v.within) in
    let found = probe_found s.ranges.items s.before.items s.long s.each (c.loop-low.low + (c.loop-low.high - c.loop-low.low) / 2) c.args.x c.index.result.now c.index.ensures lt c.if-x-first.false c.if-last-x.false in
    let is = found_rank s.before.items (c.loop-low.low + (c.loop-low.high - c.loop-low.low) / 2) c.index-else-last-x.result.now (c.args.x - c.index.result.now.0) (count_below (in_ranges s.ranges.items) c.args.x) (omega (arith, lt, s.long)) c.index-else-last-x.ensures found in
    let bounded = bounded_below (in_ranges s.ranges.items) c.args.x in
    let x = c.ranges.x.fits in
    omega (arith, bounded, is, x)
