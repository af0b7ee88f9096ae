use Rattle.wc_validate.proofs.ArgumentLemmas.{items_next}
use Rattle.wc_validate.proofs.imports.arguments.items_by_alias.Goals as goal

pub loop-item-preserved : goal.loop-item-preserved
loop-item-preserved c =
    items_next c.args.items.now c.loop-item.item-index c.item-item.result _ c.as_str.result.now c.loop-item-test.true c.item-item.is c.as_str.ensures.value
    (c.in_ok-add_item.ensures _ c.loop-item.invariant)
