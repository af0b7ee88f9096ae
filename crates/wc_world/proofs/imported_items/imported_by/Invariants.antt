use Rattle.std.proofs.Common.{map}
use Rattle.wc_validate.specs.Validate.{module_record}
use Rattle.wc_world.specs.WorldViews.{adapter_entry}
use Rattle.wc_world.proofs.ImportedItemLemmas.{AdapterWalk}
use Rattle.wc_world.proofs.imported_items.imported_by.Given as goal

abbrev pub invariant-loop-name : goal.invariant-loop-name
invariant-loop-name l = AdapterWalk (module_record l.main) (map adapter_entry l.fn.adapters.entries) (map adapter_entry l._name-iterator) l.imported
