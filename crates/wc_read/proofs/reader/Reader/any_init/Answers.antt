use Rattle.std.proofs.Common.{arith}
use Rattle.std.proofs.lemmas.Result.{err_from_is_err_and}
use Rattle.wc_read.proofs.InitsLemmas.{passed_start, passed_shorter, passed_more, passed_end, passed_fails}
use Rattle.wc_read.proofs.reader.Reader.any_init.Goals as goal

pub loop-init-init : goal.loop-init-init
loop-init-init c = passed_start _

pub returns-in_err-init_end : goal.returns-in_err-init_end
returns-in_err-init_end c =
    let p = err_from_is_err_and c.from_residual.result c.from_residual.ensures.1 in
    rw (p.1, p.2) ((λ real. passed_fails _ _ c.loop-init.invariant (c.in_err-init_end.ensures.0 real)), c.in_err-init_end.ensures.1)

pub overflow_sub-input : goal.overflow_sub-input
overflow_sub-input c = omega (arith, c.loop-init.invariant.left, passed_shorter _ _ _ c.in_ok-init_end.ensures)

pub returns-then-branch : goal.returns-then-branch
returns-then-branch c =
    let e = rw c.if-branch.true at c.in_ok-init_end.ensures in
    rw c.split_at.ensures.front (passed_end _ _ _ c.loop-init.invariant e)

pub loop-init-smaller : goal.loop-init-smaller
loop-init-smaller c = passed_shorter _ _ _ c.in_ok-init_end.ensures

pub loop-init-preserved : goal.loop-init-preserved
loop-init-preserved c =
    let e = rw c.if-branch.false at c.in_ok-init_end.ensures in
    passed_more _ _ _ c.loop-init.invariant e
