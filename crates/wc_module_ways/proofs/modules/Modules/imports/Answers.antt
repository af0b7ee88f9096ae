use Rattle.std.proofs.Common.{◌∙◌, ◌++◌, ap, filter, map}
use Rattle.std.specs.List.{flat_map}
use Rattle.wc_read.specs.Imports.{import_value, import_values}
use Rattle.wc_read.specs.Modules.{ModuleValue}
use Rattle.wc_module_ways.specs.Adapters.{adapter_view}
use Rattle.wc_module_ways.specs.CoreModules.{core_view}
use Rattle.wc_module_ways.specs.Modules.{core_imports, imports_through, is_of_main}
use Rattle.wc_module_ways.proofs.ModuleLemmas.{imports_are}
use Rattle.wc_module_ways.proofs.modules.Modules.imports.Goals as goal

pub returns : goal.returns
returns c =
    let same = ap (map import_value) c.deref.ensures.value ∙ ap (λ (m : ModuleValue). m.imports) c.code.ensures in
    imports_are c.args.self.now (import_values c.new-imports.result.items) (import_values c.push_main_imports.new.found.items)
    (import_values c.push_all_imports.new.found.items) (import_values c.push_all_core_imports.new.found.items) (ap (map import_value) c.new-imports.ensures.items)
    (λ given names. c.in_ok-push_main_imports.ensures given names ∙ ap (λ z. import_values c.new-imports.result.items ++ filter (is_of_main given) z) same)
    (c.in_ok-push_all_imports.ensures ∙ ap (λ z. import_values c.push_main_imports.new.found.items ++ flat_map imports_through (map adapter_view z)) c.deref-2.ensures.value)
    (λ given names. c.in_ok-push_all_core_imports.ensures given names
    ∙ ap (λ z. import_values c.push_all_imports.new.found.items ++ flat_map (core_imports given) (map core_view z)) c.deref-3.ensures.value)
