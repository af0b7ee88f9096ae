use Rattle.std.proofs.Common.{◌∙◌, ◌++◌, ap, filter}
use Rattle.wc_read.specs.Imports.{import_values}
use Rattle.wc_module_ways.specs.Adapters.{adapter_view}
use Rattle.wc_module_ways.specs.Modules.{imports_through, is_of_adapter}
use Rattle.wc_module_ways.specs.declared.adapter.AdapterModule.{AdapterModule}
use Rattle.wc_import_paths.proofs.PickedLemmas.{joined_more}
use Rattle.wc_module_ways.proofs.modules.push_all_imports.Goals as goal

pub loop-adapter-preserved : goal.loop-adapter-preserved
loop-adapter-preserved c =
    let before = import_values c.loop-adapter.found.items in
    joined_more adapter_view imports_through c.args.adapters.now c.loop-adapter.adapter-index c.adapter-item.result (import_values c.args.found.now.items) before
    (import_values c.push_adapter_imports.new.found.items) c.loop-adapter-test.true c.loop-adapter.invariant
    (c.in_ok-push_adapter_imports.ensures
    ∙ (ap (λ z. before ++ filter is_of_adapter (import_values z)) c.deref.ensures.value
    ∙ ap (λ (z : AdapterModule). before ++ imports_through (adapter_view z)) c.adapter-item.is))
