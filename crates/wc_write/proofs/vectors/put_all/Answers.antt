use Rattle.std.proofs.Common.{arith}
use Rattle.wc_write.proofs.VectorLemmas.{items_end}
use Rattle.wc_write.proofs.vectors.put_all.Goals as goal

pub returns : goal.returns
returns g c = items_end g.T.Written.text _ _ c.args.items.now c.loop-item.item-index c.loop-item.invariant (omega arith)
