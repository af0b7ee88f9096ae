use Rattle.std.proofs.Common.{length, ap}
use Rattle.wc_read.proofs.NamesAtLemmas.{indices_start, indices_more, indices_end}
use Rattle.wc_read.proofs.names.indices_of.Goals as goal

pub loop-index-init : goal.loop-index-init
loop-index-init c = indices_start _ _ (ap length c.new-set.ensures)

pub loop-index-preserved : goal.loop-index-preserved
loop-index-preserved c = indices_more _ _ _ _ _ _ c.loop-index.invariant c.loop-index-test.true c.in_ok-insert.ensures.entries

pub returns : goal.returns
returns c = indices_end _ _ _ c.loop-index.invariant c.loop-index-test.false
