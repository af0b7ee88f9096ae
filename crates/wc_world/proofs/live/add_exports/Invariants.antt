use Rattle.std.proofs.Common.{map}
use Rattle.wc_resolve.specs.Views.{world_entry}
use Rattle.wc_world.specs.Used.{used_view}
use Rattle.wc_world.proofs.SettledLemmas.{ExportsWalk}
use Rattle.wc_world.proofs.live.add_exports.Given as goal

abbrev pub invariant-loop-key : goal.invariant-loop-key
invariant-loop-key l = ExportsWalk l.context.resolve.now (used_view l.context.used.now) (map world_entry l.exports.entries) (map world_entry l._key-iterator) l.settled.items l.fn.live l.live
