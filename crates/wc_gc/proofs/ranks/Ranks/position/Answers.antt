use Rattle.std.proofs.Common.{◌-◌, ◌*◌, ◌/◌, ℕ, ap, refl, arith}
use Rattle.std.proofs.lemmas.List.{get_or_default}
use Rattle.wc_gc.proofs.RangeLemmas.{ends_before}
use Rattle.wc_gc.proofs.StartLemmas.{before_start, cut_by, cut_from, cut_within}
use Rattle.wc_gc.proofs.ranks.Ranks.position.Goals as goal

pub loop-passed-init : goal.loop-passed-init
loop-passed-init c = record {
  at = omega arith;
  within = cut_within (c.args.x / c.args.self.now.block * c.args.self.now.block) c.args.self.now.ranges.items c.args.start c.requires;
  before = before_start c.args.x c.args.self.now.block c.args.self.now.ranges.items c.args.start c.requires;
}

pub loop-passed-preserved : goal.loop-passed-preserved
loop-passed-preserved c =
    let v = c.loop-passed.invariant in
    let s = c.args.self.now in
    let e = rw c.deref.ensures.value at c.if-ends_before.ensures.ends in
    let here = e refl in
    let at = v.at in
    record {
      at = omega (arith, at);
      within = omega (arith, here.0);
      before = λ k d lt. ends_before s.ranges.items s.sorted k c.loop-passed.index c.args.x d (0, 0) (omega arith) here.0 here.1;
    }

pub returns-else-ends_before-clause-near : goal.returns-else-ends_before-clause-near
returns-else-ends_before-clause-near c = λ i cut few.
    let v = c.loop-passed.invariant in
    let s = c.args.self.now in
    let reach = rw c.deref.ensures.value at c.if-ends_before.ensures.reaches in
    let from = cut_from c.args.x s.ranges.items i c.loop-passed.index cut v.before v.within in
    let by = cut_by c.args.x s.ranges.items i c.loop-passed.index cut (λ d lt. let same = ap (λ (r : ℕ × ℕ). r.1) (get_or_default s.ranges.items c.loop-passed.index d (0, 0) lt) in let at = reach refl lt in omega (arith, same, at)) in
    let at = v.at in
    (omega (arith, from, by), omega (arith, from, by, at))

pub returns-clause-near : goal.returns-clause-near
returns-clause-near c = λ i cut few.
    let v = c.loop-passed.invariant in
    let done = c.loop-passed-test.false in
    let at = v.at in
    let from = cut_from c.args.x c.args.self.now.ranges.items i c.loop-passed.index cut v.before v.within in
    absurd (omega (arith, from, few, at, done))
