use Rattle.std.proofs.Common.{refl}
use Rattle.wc_dedupe.proofs.NamePositionLemmas.{entries_more, name_of_index}
use Rattle.wc_dedupe.specs.Private.NamePositions.{names_of}
use Rattle.wc_dedupe.proofs.name_positions.entries_of.Goals as goal

pub loop-index-preserved : goal.loop-index-preserved
loop-index-preserved c =
    rw c.in_ok-push.ensures.items (entries_more (names_of c.args.names.now) c.loop-index.index c.loop-index.entries.items _ refl (name_of_index c.args.names.now c.loop-index.index _ c.loop-index-test.true) c.loop-index.invariant)
