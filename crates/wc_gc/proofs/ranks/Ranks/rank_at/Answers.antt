use Rattle.std.proofs.Common.{◌<◌, ◌-◌, length, arith}
use Rattle.wc_gc.specs.Ranges.{in_ranges}
use Rattle.wc_gc.specs.Counts.{count_below}
use Rattle.wc_gc.proofs.RangeRankLemmas.{inside_range, probe_found, found_rank}
use Rattle.wc_gc.proofs.RankLemmas.{bounded_below}
use Rattle.wc_gc.proofs.StartLemmas.{found_at, found_within}
use Rattle.wc_gc.proofs.ranks.Ranks.rank_at.Goals as goal

pub overflow_add-result : goal.overflow_add-result
overflow_add-result c =
    let s = c.args.self.now in
    let test = c.if-index-len.false in
    let count = c.len.ensures in
    let lt : c.args.index < length s.ranges.items = omega (arith, test, count) in
    let found = probe_found s.ranges.items s.before.items s.long s.each c.args.index c.args.x c.index.result.now c.index.ensures lt c.if-x-first.false c.if-last-x.false in
    let is = found_rank s.before.items c.args.index c.index-2.result.now (c.args.x - c.index.result.now.0) (count_below (in_ranges s.ranges.items) c.args.x) (omega (arith, lt, s.long)) c.index-2.ensures found in
    let bounded = bounded_below (in_ranges s.ranges.items) c.args.x in
    let x = c.ranges.x.fits in
    omega (arith, bounded, is, x)

pub returns-clause-rank : goal.returns-clause-rank
returns-clause-rank c =
    let s = c.args.self.now in
    let test = c.if-index-len.false in
    let count = c.len.ensures in
    let lt : c.args.index < length s.ranges.items = omega (arith, test, count) in
    let found = probe_found s.ranges.items s.before.items s.long s.each c.args.index c.args.x c.index.result.now c.index.ensures lt c.if-x-first.false c.if-last-x.false in
    found_rank s.before.items c.args.index c.index-2.result.now (c.args.x - c.index.result.now.0) (count_below (in_ranges s.ranges.items) c.args.x) (omega (arith, lt, s.long)) c.index-2.ensures found

pub returns-clause-member : goal.returns-clause-member
returns-clause-member c =
    let s = c.args.self.now in
    let test = c.if-index-len.false in
    let count = c.len.ensures in
    let lt : c.args.index < length s.ranges.items = omega (arith, test, count) in
    inside_range s.ranges.items c.args.index c.args.x c.index.result.now c.index.ensures lt c.if-x-first.false c.if-last-x.false

pub returns-then-index-len-clause-found : goal.returns-then-index-len-clause-found
returns-then-index-len-clause-found c = λ cut has.
    let within = found_within c.args.x c.args.self.now.ranges.items c.args.index cut has in
    let test = c.if-index-len.true in
    let count = c.len.ensures in
    absurd (omega (arith, within, test, count))

pub returns-then-x-first-clause-found : goal.returns-then-x-first-clause-found
returns-then-x-first-clause-found c = λ cut has.
    let s = c.args.self.now in
    let test = c.if-x-first.true in
    let at = found_at c.args.x s.ranges.items c.args.index c.index.result.now s.sorted cut (found_within c.args.x s.ranges.items c.args.index cut has) c.index.ensures has in
    absurd (omega (arith, at.0, test))

pub returns-then-last-x-clause-found : goal.returns-then-last-x-clause-found
returns-then-last-x-clause-found c = λ cut has.
    let s = c.args.self.now in
    let test = c.if-last-x.true in
    let at = found_at c.args.x s.ranges.items c.args.index c.index.result.now s.sorted cut (found_within c.args.x s.ranges.items c.args.index cut has) c.index.ensures has in
    absurd (omega (arith, at.1, test))
