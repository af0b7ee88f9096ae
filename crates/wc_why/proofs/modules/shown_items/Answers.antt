use Rattle.wc_why.proofs.ModuleLemmas.{shown_step}
use Rattle.wc_why.proofs.modules.shown_items.Goals as goal

pub loop-position-preserved : goal.loop-position-preserved
loop-position-preserved c =
    shown_step c.args.shown c.args.positions.now c.loop-position.position-index _ c.loop-position.items.items c.push.new.self.items c.shown_item.result
    c.loop-position-test.true c.loop-position.invariant c.shown_item.ensures c.in_ok-push.ensures.items
