use Rattle.wc_world.specs.Used.{used_view}
use Rattle.wc_world.proofs.UsedWalkLemmas.{UsedWalk}
use Rattle.wc_world.proofs.used.sets_of_exports.Given as goal

abbrev pub invariant-loop-key : goal.invariant-loop-key
invariant-loop-key l = UsedWalk l.resolve l.exports.entries l._key-iterator (used_view l.used)
