use Rattle.std.proofs.Common.{arith, ◌∙◌}
use Rattle.wc_gc.specs.Ranges.{in_ranges}
use Rattle.wc_gc.proofs.RangeRankLemmas.{read_rank, total_rank}
use Rattle.wc_gc.proofs.RankLemmas.{bounded_below}
use Rattle.wc_gc.proofs.ranks.Ranks.rank_between.Goals as goal

pub returns-in-Some : goal.returns-in-Some
returns-in-Some c =
    let read = rw c.deref.ensures.value at c.in-Some.ensures.lookup.3 in
    let s = c.args.self.now in
    read.1 0 ∙ read_rank s.ranges.items s.before.items s.sorted s.long s.each c.args.index c.args.x read.0 c.requires.before (λ k d le lt. omega (arith, c.requires.after k d le lt))

pub overflow_cast-result : goal.overflow_cast-result
overflow_cast-result c =
    let past = rw c.deref.ensures.value at c.in-None.ensures.lookup.3 in
    let s = c.args.self.now in
    let is = total_rank s.ranges.items s.total c.args.index c.args.x s.whole (omega (arith, past, s.long)) c.requires.before in
    let bounded = bounded_below (in_ranges s.ranges.items) c.args.x in
    omega (arith, bounded, is)

pub returns-in-None : goal.returns-in-None
returns-in-None c =
    let past = rw c.deref.ensures.value at c.in-None.ensures.lookup.3 in
    let s = c.args.self.now in
    total_rank s.ranges.items s.total c.args.index c.args.x s.whole (omega (arith, past, s.long)) c.requires.before
