use Rattle.std.proofs.Common.{◌≡◌, map, take}
use Rattle.wc_read.specs.Imports.{import_value}
use Rattle.wc_why.specs.Tree.{tree_way_view}
use Rattle.wcwhy.specs.Allowed.{module_names, way_modules}
use Rattle.wcwhy.proofs.allowed.way_imports.Given as goal

abbrev pub invariant-loop-way : goal.invariant-loop-way
invariant-loop-way l = module_names (map import_value l.imports.items) ≡ way_modules (map tree_way_view (take l.way-index l.ways))
