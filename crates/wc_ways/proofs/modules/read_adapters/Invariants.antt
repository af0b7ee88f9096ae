use Rattle.std.proofs.Common.{map}
use Rattle.wc_world.specs.WorldViews.{adapter_entry, world_view}
use Rattle.wc_ways.proofs.ModuleLemmas.{ModulesSoFar}
use Rattle.wc_ways.proofs.modules.read_adapters.Given as goal

abbrev pub invariant-loop-name : goal.invariant-loop-name
invariant-loop-name l = ModulesSoFar (world_view l.world) (map adapter_entry l.name-iterator) l.adapters.items
