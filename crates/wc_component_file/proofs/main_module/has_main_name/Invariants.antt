use Rattle.std.proofs.Common.{◌≡◌, false, map, take}
use Rattle.std.specs.List.{list_any}
use Rattle.wc_component_file.specs.Files.{core_module_view}
use Rattle.wc_component_file.specs.MainModules.{is_named_main}
use Rattle.wc_component_file.proofs.main_module.has_main_name.Given as goal

abbrev pub invariant-loop-core : goal.invariant-loop-core
invariant-loop-core l = list_any is_named_main (map core_module_view (take l.core-index l.modules)) ≡ false
