use Rattle.std.proofs.Common.{◌<◌, ◌-◌, length, get_or, arith}
use Rattle.std.proofs.lemmas.Bool.Decides.{nat_tests}
use Rattle.wc_gc.proofs.RangeLemmas.{cut_at, ends_before}
use Rattle.wc_gc.proofs.range_set.all_end_before.Goals as goal

pub returns-then-count-eq0 : goal.returns-then-count-eq0
returns-then-count-eq0 c = λ t.
    cut_at c.args.x c.args.ranges.now (length c.args.ranges.now) (omega arith) (λ k d lt. absurd (omega arith)) (λ k d le lt. absurd (omega arith))

pub returns-else-count-eq0 : goal.returns-else-count-eq0
returns-else-count-eq0 c = λ t.
    let last : (get_or c.args.ranges.now (length c.args.ranges.now - 1) (0, 0)).1 < c.args.x = grind (arith, nat_tests) in
    cut_at c.args.x c.args.ranges.now (length c.args.ranges.now) (omega arith)
    (λ k d lt. ends_before c.args.ranges.now c.requires k (length c.args.ranges.now - 1) c.args.x d (0, 0) (omega arith) (omega arith) last)
    (λ k d le lt. absurd (omega arith))
