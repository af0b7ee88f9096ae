use Rattle.std.proofs.Common.{map, take}
use Rattle.wc_module_ways.specs.AdapterNames.{HasNames}
use Rattle.wc_module_ways.specs.Adapters.{given_view}
use Rattle.wc_module_ways.proofs.modules.adapter_names.Given as goal

abbrev pub invariant-loop-adapter : goal.invariant-loop-adapter
invariant-loop-adapter l = HasNames (map given_view (take l.adapter-index l.adapters)) l.names.keys
