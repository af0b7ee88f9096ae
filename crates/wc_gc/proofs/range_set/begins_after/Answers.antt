use Rattle.std.proofs.Common.{◌≡◌, ◌<◌, ◌+◌, ◌-◌, ℕ, get_or, ap, arith}
use Rattle.std.proofs.lemmas.Bool.Decides.{nat_tests}
use Rattle.std.proofs.lemmas.List.{get_or_default}
use Rattle.wc_gc.proofs.RangeLemmas.{begins_later}
use Rattle.wc_gc.proofs.range_set.begins_after.Goals as goal

pub overflow_sub-result : goal.overflow_sub-result
overflow_sub-result c =
    let later = begins_later c.args.x c.args.ranges.now c.args.index (0, 0) c.requires.sorted c.requires.cut c.if-index-ranges.true c.requires.absent in
    omega (arith, later)

pub returns-then-index-ranges-clause-begins : goal.returns-then-index-ranges-clause-begins
returns-then-index-ranges-clause-begins c = λ h d.
    let same = ap (λ (r : ℕ × ℕ). r.0) (get_or_default c.args.ranges.now c.args.index d (0, 0) c.if-index-ranges.true) in
    let later = begins_later c.args.x c.args.ranges.now c.args.index (0, 0) c.requires.sorted c.requires.cut c.if-index-ranges.true c.requires.absent in
    let is : (get_or c.args.ranges.now c.args.index (0, 0)).0 - c.args.x ≡ 1 = grind (arith, nat_tests) in
    (c.if-index-ranges.true, omega (arith, same, is))

pub returns-then-index-ranges-clause-apart : goal.returns-then-index-ranges-clause-apart
returns-then-index-ranges-clause-apart c = λ h d _.
    let same = ap (λ (r : ℕ × ℕ). r.0) (get_or_default c.args.ranges.now c.args.index d (0, 0) c.if-index-ranges.true) in
    let later = begins_later c.args.x c.args.ranges.now c.args.index (0, 0) c.requires.sorted c.requires.cut c.if-index-ranges.true c.requires.absent in
    let is : c.args.x + 1 < (get_or c.args.ranges.now c.args.index (0, 0)).0 = grind (arith, nat_tests) in
    omega (arith, same, is)
