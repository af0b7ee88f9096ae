use Rattle.std.proofs.Common.{List}
use Rattle.wc_names.specs.Views.{ImportView}
use Rattle.wc_validate.specs.Imports.Map.{imports_in}
use Rattle.wc_validate.specs.Imports.Iter.{imports_left}
use Rattle.wc_world.specs.Private.ImportedItems.{AreImported}
use Rattle.wc_world.proofs.ImportedItemLemmas.{ImportWalk}
use Rattle.wc_world.proofs.imported_items.add_module.Given as goal

abbrev pub invariant-loop-module : goal.invariant-loop-module
invariant-loop-module l = (passed : List ImportView) → AreImported passed l.fn.imported → ImportWalk (imports_in l.imports) (imports_left l._module-iterator) passed l.imported
