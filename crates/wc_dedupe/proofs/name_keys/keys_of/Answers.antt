use Rattle.std.proofs.Common.{get_or, refl}
use Rattle.wc_dedupe.proofs.NameKeyLemmas.{keys_more}
use Rattle.wc_dedupe.proofs.NamePositionLemmas.{no_texts, name_of_index}
use Rattle.wc_dedupe.specs.Private.NamePositions.{named, names_of}
use Rattle.wc_dedupe.proofs.name_keys.keys_of.Goals as goal

pub loop-index-preserved : goal.loop-index-preserved
loop-index-preserved c =
    rw c.in_ok-push.ensures.items
    (keys_more (names_of c.args.names.now) c.loop-index.index c.loop-index.keys.items _ refl
    (named (get_or c.args.names.now c.loop-index.index no_texts), name_of_index c.args.names.now c.loop-index.index no_texts c.loop-index-test.true, c.name_key.ensures) c.loop-index.invariant)
