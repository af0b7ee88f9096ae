use Rattle.std.proofs.Common.{◌≡◌, ◌++◌, map}
use Rattle.std.specs.Vec.Iter.{into_iter_items}
use Rattle.wc_world.specs.Lowering.{AreKeysDistinct}
use Rattle.wc_world.specs.WorldViews.{lowering_entry}
use Rattle.wc_world.proofs.import_map.by_keys.Given as goal

abbrev pub invariant-loop-key : goal.invariant-loop-key
invariant-loop-key l = AreKeysDistinct (map lowering_entry l.fn.lowerings.items) → l.found.entries ++ into_iter_items l.key-iterator ≡ l.fn.lowerings.items
