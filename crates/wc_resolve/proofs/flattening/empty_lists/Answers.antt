use Rattle.wc_resolve.proofs.FlatTableLemmas.{lists_push}
use Rattle.wc_resolve.proofs.flattening.empty_lists.Goals as goal

pub loop-preserved : goal.loop-preserved
loop-preserved c = lists_push c.loop.flats.items c.push.new.self.items c.new.result c.loop.counter c.loop.invariant c.new.ensures.items c.in_ok-push.ensures.items
