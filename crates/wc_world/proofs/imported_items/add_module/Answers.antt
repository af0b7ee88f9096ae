use Rattle.wc_names.specs.Views.{import_view}
use Rattle.wc_validate.specs.Imports.Map.{imports_in}
use Rattle.wc_validate.specs.Imports.Iter.{imports_left}
use Rattle.wc_world.proofs.ImportedItemLemmas.{imports_end, imports_next}
use Rattle.wc_world.proofs.imported_items.add_module.Goals as goal

pub loop-module-preserved : goal.loop-module-preserved
loop-module-preserved c = λ passed a.
    imports_next (imports_in c.args.imports.now) (imports_left c.loop-module._module-iterator) (imports_left c.next.new.self) (c.in-Some._module.now, (c.in-Some._name.now, import_view c.in-Some.import.now)) passed c.loop-module.imported c.add_import.new.self
    c.in-Some.ensures.steps c.in_ok-add_import.ensures (c.loop-module.invariant passed a)

pub returns : goal.returns
returns c = λ passed a. imports_end (imports_in c.args.imports.now) (imports_left c.loop-module._module-iterator) passed c.loop-module.imported c.in-None.ensures.steps.0 (c.loop-module.invariant passed a)
