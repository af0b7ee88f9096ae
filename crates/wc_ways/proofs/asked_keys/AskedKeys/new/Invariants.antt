use Rattle.std.proofs.Common.{map}
use Rattle.wc_world.specs.WorldViews.{imported_entry, world_view}
use Rattle.wc_ways.proofs.AskedKeyLemmas.{AreLeft}
use Rattle.wc_ways.proofs.asked_keys.AskedKeys.new.Given as goal

abbrev pub invariant-loop-name : goal.invariant-loop-name
invariant-loop-name l = AreLeft l.key (world_view l.world).import_map (map imported_entry l.name-iterator) l.names.entries
