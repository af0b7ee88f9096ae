use Rattle.std.proofs.Common.{◌≡◌, ◌<◌, ◌+◌, ◌-◌, ℕ, get_or, ap, arith}
use Rattle.std.proofs.lemmas.Bool.Decides.{nat_tests}
use Rattle.std.proofs.lemmas.List.{get_or_default}
use Rattle.wc_gc.proofs.RangeLemmas.{cut_before}
use Rattle.wc_gc.proofs.range_set.ends_before.Goals as goal

pub overflow_add-result : goal.overflow_add-result
overflow_add-result c =
    let test = c.if-index-gt0.true in
    let before = cut_before c.args.x c.args.ranges.now c.args.index (c.args.index - 1) (0, 0) c.requires.cut (omega arith) c.requires.within in
    let x = c.ranges.x.fits in
    omega (arith, before, x)

pub returns-then-index-gt0-clause-ends : goal.returns-then-index-gt0-clause-ends
returns-then-index-gt0-clause-ends c = λ h d.
    let test = c.if-index-gt0.true in
    let within = c.requires.within in
    let same = ap (λ (r : ℕ × ℕ). r.1) (get_or_default c.args.ranges.now (c.args.index - 1) d (0, 0) (omega arith)) in
    let is : (get_or c.args.ranges.now (c.args.index - 1) (0, 0)).1 + 1 ≡ c.args.x = grind (arith, nat_tests) in
    (test, omega (arith, same, is))

pub returns-then-index-gt0-clause-apart : goal.returns-then-index-gt0-clause-apart
returns-then-index-gt0-clause-apart c = λ h d _.
    let test = c.if-index-gt0.true in
    let within = c.requires.within in
    let same = ap (λ (r : ℕ × ℕ). r.1) (get_or_default c.args.ranges.now (c.args.index - 1) d (0, 0) (omega arith)) in
    let before = cut_before c.args.x c.args.ranges.now c.args.index (c.args.index - 1) (0, 0) c.requires.cut (omega arith) c.requires.within in
    let is : (get_or c.args.ranges.now (c.args.index - 1) (0, 0)).1 + 1 < c.args.x = grind (arith, nat_tests) in
    omega (arith, same, is)
