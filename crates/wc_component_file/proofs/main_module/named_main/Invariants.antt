use Rattle.std.proofs.Common.{◌≡◌, false, map, take}
use Rattle.std.specs.List.{list_any}
use Rattle.wc_component_file.specs.Files.{core_module_view}
use Rattle.wc_component_file.specs.MainModules.{is_named_main}
use Rattle.wc_component_file.proofs.main_module.named_main.Given as goal

abbrev pub invariant-loop-position : goal.invariant-loop-position
invariant-loop-position l = list_any is_named_main (map core_module_view (take l.position l.modules)) ≡ false
