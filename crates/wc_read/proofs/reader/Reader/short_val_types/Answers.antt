use Rattle.std.proofs.Common.{arith}
use Rattle.wc_read.proofs.ShortTypesLemmas.{reading_start, reading_more, reading_end}
use Rattle.wc_read.proofs.reader.Reader.short_val_types.Goals as goal

pub loop-index-init : goal.loop-index-init
loop-index-init c = reading_start c.args.from _ _ _ c.args.types.now c.in-Ok.ensures

pub loop-index-preserved : goal.loop-index-preserved
loop-index-preserved c = reading_more c.args.from _ c.loop-index.index _ _ c.args.types.now c.loop-index.types _ _ c.loop-index.invariant c.loop-index-test.true c.in-Ok-val_type.ensures (omega (arith, c.loop-index.invariant.placed.places))

pub returns : goal.returns
returns c = reading_end c.args.from _ c.loop-index.index _ _ c.args.types.now c.loop-index.types c.loop-index.invariant (omega arith) (omega arith)
