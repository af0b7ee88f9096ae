use Rattle.std.proofs.lemmas.Result.{err_from_is_err_and}
use Rattle.wc_read.proofs.InitCountsLemmas.{count_more, count_fails, count_stops, count_out, answer_no, answer_end, answer_else}
use Rattle.wc_read.proofs.init_types.leaves_one_of_any.Goals as goal

pub returns-in_err-next_step-clause-refused : goal.returns-in_err-next_step-clause-refused
returns-in_err-next_step-clause-refused c =
    let p = err_from_is_err_and c.from_residual.result c.from_residual.ensures.1 in
    rw (p.1, p.2) (λ real. count_stops _ _ _ _ _ _ c.loop.invariant (c.in_err-next_step.ensures.0 real))

pub returns-then-depth-eq1-clause-found : goal.returns-then-depth-eq1-clause-found
returns-then-depth-eq1-clause-found c =
    let e = rw c.in-End.is at c.in_ok-next_step.ensures in
    answer_end _ _ _ _ _ _ _ _ c.loop.invariant e c.if-depth-eq1.true c.is_empty.ensures

pub returns-else-depth-eq1-clause-found : goal.returns-else-depth-eq1-clause-found
returns-else-depth-eq1-clause-found c =
    let e = rw c.in-End.is at c.in_ok-next_step.ensures in
    answer_else _ _ _ _ _ _ _ c.loop.invariant e c.if-depth-eq1.false

pub returns-in-Fails-clause-found : goal.returns-in-Fails-clause-found
returns-in-Fails-clause-found c =
    let e = rw c.in-Fails.is at c.in_ok-next_step.ensures in
    answer_no _ _ _ (count_fails _ _ _ _ _ _ _ c.loop.invariant e)

pub loop-preserved : goal.loop-preserved
loop-preserved c =
    let e = rw c.in-Leaves.is at c.in_ok-next_step.ensures in
    count_more _ _ _ _ _ _ _ _ c.loop.invariant e

pub returns-clause-found : goal.returns-clause-found
returns-clause-found c = answer_no _ _ _ (count_out _ _ _ _ _ _ c.loop.invariant c.loop-test.false)
