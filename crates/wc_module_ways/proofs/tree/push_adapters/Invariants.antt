use Rattle.std.proofs.Common.{◌≡◌, ◌++◌, map, take}
use Rattle.wc_import_paths.specs.Shown.{end_view}
use Rattle.wc_module_ways.specs.Adapters.{adapter_view}
use Rattle.wc_module_ways.specs.Tree.{all_adapter_ends}
use Rattle.wc_module_ways.proofs.tree.push_adapters.Given as goal

abbrev pub invariant-loop-index : goal.invariant-loop-index
invariant-loop-index l =
    map end_view l.shown.items ≡ map end_view l.fn.shown.items ++ all_adapter_ends l.asked 1 (map adapter_view (take l.index l.adapters))
