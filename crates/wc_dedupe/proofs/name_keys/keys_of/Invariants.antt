use Rattle.wc_dedupe.specs.Private.NameKeys.{AreKeys}
use Rattle.wc_dedupe.specs.Private.NamePositions.{names_of}
use Rattle.wc_dedupe.proofs.name_keys.keys_of.Given as goal

abbrev pub invariant-loop-index : goal.invariant-loop-index
invariant-loop-index l = AreKeys (names_of l.names) l.index l.keys.items
