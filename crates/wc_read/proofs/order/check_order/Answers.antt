use Rattle.std.proofs.Common.{◌∙◌}
use Rattle.std.proofs.lemmas.Result.{err_from_is_err_and}
use Rattle.wc_read.proofs.OrderLemmas.{order_found, no_order, position_more, position_fails, position_end}
use Rattle.wc_read.proofs.order.check_order.Goals as goal

pub returns-in_err-position-clause-refused : goal.returns-in_err-position-clause-refused
returns-in_err-position-clause-refused c =
    let p = err_from_is_err_and c.from_residual.result c.from_residual.ensures.1 in
    rw p.1 (no_order _ (c.loop-section.invariant ∙ position_fails _ _ _ _ c.loop-section-test.true c.in_err-position.ensures.0))

pub loop-section-preserved : goal.loop-section-preserved
loop-section-preserved c = c.loop-section.invariant ∙ position_more _ _ _ _ _ c.loop-section-test.true c.in_ok-position.ensures

pub returns-clause-found : goal.returns-clause-found
returns-clause-found c = order_found _ _ (c.loop-section.invariant ∙ position_end _ _ _ c.loop-section-test.false)
