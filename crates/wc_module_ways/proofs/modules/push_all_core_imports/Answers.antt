use Rattle.std.proofs.Common.{◌∙◌, ◌++◌, ap, filter, map}
use Rattle.wc_read.specs.Imports.{import_value, import_values}
use Rattle.wc_read.specs.Modules.{ModuleValue}
use Rattle.wc_module_ways.specs.CoreModules.{core_view, is_library}
use Rattle.wc_module_ways.specs.Modules.{core_imports, is_of_core}
use Rattle.wc_module_ways.specs.declared.core_module.CoreModule.{CoreModule}
use Rattle.wc_import_paths.proofs.PickedLemmas.{joined_more}
use Rattle.wc_module_ways.proofs.modules.push_all_core_imports.Goals as goal

pub loop-one-preserved : goal.loop-one-preserved
loop-one-preserved c given names =
    let before = import_values c.loop-one.found.items in
    let imports = ap (map import_value) c.deref.ensures.value ∙ ap (λ (m : ModuleValue). m.imports) c.code.ensures in
    joined_more core_view (core_imports given) c.args.core.now c.loop-one.one-index c.one-item.result (import_values c.args.found.now.items) before
    (import_values c.push_core_imports.new.found.items) c.loop-one-test.true (c.loop-one.invariant given names)
    (c.in_ok-push_core_imports.ensures given names
    ∙ ((λ t. before ++ filter (is_of_core given (c.is_library.ensures t)) (imports t))
    ∙ ap (λ (z : CoreModule). before ++ core_imports given (core_view z)) c.one-item.is))
