use Rattle.std.proofs.Common.{◌≡◌, ◌++◌, List, map, take}
use Rattle.std.specs.List.{flat_map}
use Rattle.wc_read.specs.Imports.{import_values}
use Rattle.wc_module_ways.specs.AdapterNames.{HasNames}
use Rattle.wc_module_ways.specs.Adapters.{Given}
use Rattle.wc_module_ways.specs.CoreModules.{core_view}
use Rattle.wc_module_ways.specs.Modules.{core_imports}
use Rattle.wc_module_ways.proofs.modules.push_all_core_imports.Given as goal

abbrev pub invariant-loop-one : goal.invariant-loop-one
invariant-loop-one l =
    (given : List Given) → HasNames given l.names.keys
    → import_values l.found.items ≡ import_values l.fn.found.items ++ flat_map (core_imports given) (map core_view (take l.one-index l.core))
