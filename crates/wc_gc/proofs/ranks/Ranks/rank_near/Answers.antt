use Rattle.std.proofs.Common.{◌-◌, ◌*◌, ◌/◌, subst, sym, arith}
use Rattle.std.proofs.lemmas.Bool.{false≢true}
use Rattle.wc_gc.specs.Private.RangeSet.{IsCut}
use Rattle.wc_gc.proofs.StartLemmas.{cut_once}
use Rattle.wc_gc.proofs.ranks.Ranks.rank_near.Goals as goal

pub returns-in-Some-clause-near : goal.returns-in-Some-clause-near
returns-in-Some-clause-near c = λ has s i begins cut few.
    let r = c.args.self.now in
    let same = cut_once (c.args.x / r.block * r.block) r.ranges.items s c.start.result begins c.start.ensures in
    let at = c.position-index.ensures.near i cut (omega (arith, few, same)) in
    omega (arith, at.1, same)

pub overflow_add-result : goal.overflow_add-result
overflow_add-result c =
    let most = c.position-index.ensures.most in
    omega (arith, most)

pub overflow_add-result-in-None-2 : goal.overflow_add-result-in-None-2
overflow_add-result-in-None-2 c =
    let most = c.position-index.ensures.most in
    let ranges = c.args.self.now.ranges in
    let more = c.rank_counted-rank.ensures.most 64 (omega (arith, ranges.ok, ranges.small)) in
    omega (arith, most, more)

pub returns-in-None-clause-near : goal.returns-in-None-clause-near
returns-in-None-clause-near c = λ has s i begins cut few.
    let r = c.args.self.now in
    let same = cut_once (c.args.x / r.block * r.block) r.ranges.items s c.start.result begins c.start.ensures in
    let at = c.position-index.ensures.near i cut (omega (arith, few, same)) in
    absurd (false≢true (rw c.in-None.is at c.rank_at.ensures.found (subst (λ j. IsCut c.args.x r.ranges.items j) (sym at.0) cut) has))
