use Rattle.std.proofs.Common.{arith}
use Rattle.wc_read.proofs.LocalRunsLemmas.{short_start, short_more, short_end}
use Rattle.wc_read.proofs.local_runs.after_short_runs.Goals as goal

pub loop-init : goal.loop-init
loop-init c = short_start c.args.input.now _ _ c.in_ok-count.ensures.cases.0 c.if-count-ge-MORE_BYTES.false

pub loop-preserved : goal.loop-preserved
loop-preserved c = short_more c.args.input.now _ c.loop.counter c.loop.rest.now _ c.loop.invariant (omega arith) c.in_ok-rest.ensures

pub returns : goal.returns
returns c = short_end c.args.input.now _ c.loop.counter c.loop.rest.now c.loop.invariant (omega arith) (omega arith) c.if-count-ge-MORE_BYTES.false
