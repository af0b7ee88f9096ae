use Rattle.std.proofs.Common.{◌≡◌, ◌++◌, map, take}
use Rattle.std.specs.List.{flat_map}
use Rattle.wc_read.specs.Imports.{import_values}
use Rattle.wc_module_ways.specs.Adapters.{adapter_view}
use Rattle.wc_module_ways.specs.Modules.{imports_through}
use Rattle.wc_module_ways.proofs.modules.push_all_imports.Given as goal

abbrev pub invariant-loop-adapter : goal.invariant-loop-adapter
invariant-loop-adapter l =
    import_values l.found.items ≡ import_values l.fn.found.items ++ flat_map imports_through (map adapter_view (take l.adapter-index l.adapters))
