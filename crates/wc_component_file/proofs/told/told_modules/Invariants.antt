use Rattle.std.proofs.Common.{map, take}
use Rattle.wc_component_file.specs.Files.{core_module_view}
use Rattle.wc_component_file.specs.Told.{AreTold, told_view}
use Rattle.wc_component_file.proofs.told.told_modules.Given as goal

abbrev pub invariant-loop-position : goal.invariant-loop-position
invariant-loop-position l = AreTold l.main (map core_module_view (take l.position l.modules)) (map told_view l.told.items)
