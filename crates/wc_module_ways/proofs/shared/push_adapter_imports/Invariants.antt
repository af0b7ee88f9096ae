use Rattle.std.proofs.Common.{◌≡◌, ◌++◌, filter, map, take}
use Rattle.wc_read.specs.Imports.{import_value, import_values}
use Rattle.wc_module_ways.specs.Modules.{is_of_adapter}
use Rattle.wc_module_ways.proofs.shared.push_adapter_imports.Given as goal

abbrev pub invariant-loop-import : goal.invariant-loop-import
invariant-loop-import l =
    import_values l.found.items ≡ import_values l.fn.found.items ++ filter is_of_adapter (map import_value (take l.import-index l.imports))
