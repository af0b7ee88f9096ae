use Rattle.std.proofs.Common.{◌≡◌, ◌++◌, List, filter, map, take}
use Rattle.wc_read.specs.Imports.{import_value, import_values}
use Rattle.wc_module_ways.specs.AdapterNames.{HasNames}
use Rattle.wc_module_ways.specs.Adapters.{Given}
use Rattle.wc_module_ways.specs.Modules.{is_of_core}
use Rattle.wc_module_ways.proofs.shared.push_core_imports.Given as goal

abbrev pub invariant-loop-import : goal.invariant-loop-import
invariant-loop-import l =
    (given : List Given) → HasNames given l.names.keys
    → import_values l.found.items ≡ import_values l.fn.found.items ++ filter (is_of_core given l.is_library) (map import_value (take l.import-index l.imports))
