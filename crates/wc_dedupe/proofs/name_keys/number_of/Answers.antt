use Rattle.std.proofs.lemmas.List.{drop_more, drop_all}
use Rattle.wc_dedupe.proofs.name_keys.number_of.Goals as goal

pub loop-byte-preserved : goal.loop-byte-preserved
loop-byte-preserved c = rw (drop_more c.args.bytes.now c.loop-byte.byte-index 0 c.loop-byte-test.true) at c.loop-byte.invariant

pub returns : goal.returns
returns c = rw (drop_all _ _ c.loop-byte-test.false) at c.loop-byte.invariant
