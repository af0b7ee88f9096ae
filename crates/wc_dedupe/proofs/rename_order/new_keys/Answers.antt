use Rattle.std.proofs.Common.{map, refl}
use Rattle.wc_dedupe.specs.Private.NamePositions.{named}
use Rattle.wc_dedupe.specs.Private.RenameOrder.{new_name}
use Rattle.wc_dedupe.proofs.NameKeyLemmas.{keys_more}
use Rattle.wc_dedupe.proofs.OrderLemmas.{key_at}
use Rattle.wc_dedupe.proofs.rename_order.new_keys.Goals as goal

pub loop-index-preserved : goal.loop-index-preserved
loop-index-preserved c =
    rw c.in_ok-push.ensures.items
    (keys_more (map new_name c.args.renames.now) c.loop-index.index c.loop-index.keys.items _ refl
    (key_at c.args.renames.now c.name_key-number.result c.loop-index.index (named c.new_name-name.result) (rw c.len-index-end.ensures at c.loop-index-test.true) c.new_name-name.ensures c.name_key-number.ensures) c.loop-index.invariant)
