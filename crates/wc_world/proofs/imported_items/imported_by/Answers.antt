use Rattle.std.proofs.Common.{◌∙◌, [], ap, map}
use Rattle.wc_validate.specs.Validate.{module_record}
use Rattle.wc_world.specs.WorldViews.{adapter_entry}
use Rattle.wc_world.proofs.ImportedItemLemmas.{adapters_next, adapters_start}
use Rattle.wc_world.proofs.imported_items.imported_by.Goals as goal

pub loop-name-init : goal.loop-name-init
loop-name-init c =
    adapters_start (module_record c.args.main.now) (map adapter_entry c.args.adapters.now.entries) (map adapter_entry c.into_iter-name-iterator.result) c.add_module.new.imported
    (ap (map adapter_entry) (c.into_iter-name-iterator.ensures.into_iter_gives ∙ c.iter-name-items.ensures.rest)) (c.in_ok-add_module.ensures [] c.new-imported.ensures)

pub loop-name-preserved : goal.loop-name-preserved
loop-name-preserved c =
    adapters_next (module_record c.args.main.now) (map adapter_entry c.args.adapters.now.entries) (map adapter_entry c.loop-name._name-iterator) (map adapter_entry c.next.new.self) (adapter_entry (c.in-Some._name.now, c.in-Some.adapter.now)) c.loop-name.imported c.add_module-in-loop-name.new.imported
    (ap (map adapter_entry) c.in-Some.ensures.steps) c.in_ok-add_module-2.ensures c.loop-name.invariant
