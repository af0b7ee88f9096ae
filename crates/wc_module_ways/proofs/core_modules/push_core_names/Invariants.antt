use Rattle.std.proofs.Common.{◌++◌, List, map, take}
use Rattle.wc_module_ways.specs.AdapterNames.{HasNames}
use Rattle.wc_module_ways.specs.Adapters.{Given}
use Rattle.wc_module_ways.specs.CoreModules.{core_given, names_given}
use Rattle.wc_module_ways.proofs.core_modules.push_core_names.Given as goal

abbrev pub invariant-loop-one : goal.invariant-loop-one
invariant-loop-one l =
    (given : List Given) → HasNames given l.fn.names.keys → HasNames (given ++ names_given (map core_given (take l.one-index l.core))) l.names.keys
