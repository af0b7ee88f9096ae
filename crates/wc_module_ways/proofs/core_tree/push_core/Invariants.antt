use Rattle.std.proofs.Common.{◌≡◌, ◌++◌, List, map, take}
use Rattle.wc_import_paths.specs.Shown.{end_view}
use Rattle.wc_module_ways.specs.AdapterNames.{HasNames}
use Rattle.wc_module_ways.specs.Adapters.{Given}
use Rattle.wc_module_ways.specs.CoreModules.{core_view}
use Rattle.wc_module_ways.specs.Tree.{all_core_ends}
use Rattle.wc_module_ways.proofs.core_tree.push_core.Given as goal

abbrev pub invariant-loop-index : goal.invariant-loop-index
invariant-loop-index l =
    (given : List Given) → HasNames given l.modules.names.keys
    → map end_view l.shown.items ≡ map end_view l.fn.shown.items ++ all_core_ends given l.asked l.first (map core_view (take l.index l.modules.core.items))
