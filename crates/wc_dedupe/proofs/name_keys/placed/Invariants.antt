use Rattle.wc_dedupe.proofs.NameKeyLemmas.{ArePlaced}
use Rattle.wc_dedupe.proofs.name_keys.placed.Given as goal

abbrev pub invariant-loop-key : goal.invariant-loop-key
invariant-loop-key l = ArePlaced l.names l.keys l.key-index l.few.items l.positions.items
