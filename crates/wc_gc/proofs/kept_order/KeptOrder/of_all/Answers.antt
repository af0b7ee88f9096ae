use Rattle.std.proofs.Common.{◌∙◌}
use Rattle.wc_gc.proofs.KeptOrderLemmas.{position_first}
use Rattle.wc_gc.proofs.kept_order.KeptOrder.of_all.Goals as goal

pub returns-clause-noted : goal.returns-clause-noted
returns-clause-noted c =
    λ n h. position_first (record { order = c.in_ok-order.order; positions = c.in_ok-positions.positions }) c.args.count n c.in_ok-order.ensures
    (c.in_ok-positions.ensures.items ∙ (c.deref.ensures.value ∙ c.in_ok-order.ensures)) h
