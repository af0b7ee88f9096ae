use Rattle.wc_selection.proofs.KeyIndexLemmas.{set_next}
use Rattle.wc_selection.proofs.key_index.key_set.Goals as goal

pub loop-key-preserved : goal.loop-key-preserved
loop-key-preserved c =
    set_next c.args.keys.now c.loop-key.key-index c.key-item.result c.in_ok-clone.field-0 c.loop-key.set.keys c.insert.new.self.keys
    c.loop-key-test.true c.key-item.is c.requires c.in_ok-clone.ensures c.in_ok-insert.ensures.keys c.loop-key.invariant
