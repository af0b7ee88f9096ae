use Rattle.std.proofs.Common.{◌≡◌, ◌++◌, map}
use Rattle.wc_world.specs.WorldViews.{lowering_entry}
use Rattle.wc_tests.specs.World.{lowered_entry, lowered_view}
use Rattle.wc_tests.proofs.examples.world.all_lowered.Given as goal

abbrev pub invariant-loop-key : goal.invariant-loop-key
invariant-loop-key l =
    map lowered_view l.all.items ++ map lowered_entry (map lowering_entry l.key-iterator)
    ≡ map lowered_entry (map lowering_entry l.lowerings.entries)
