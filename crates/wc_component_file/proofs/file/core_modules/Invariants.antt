use Rattle.std.proofs.Common.{◌≡◌, [], map, take}
use Rattle.wc_component_file.specs.Files.{core_module_view, modules_of}
use Rattle.wc_component_file.specs.Frames.{frame_values}
use Rattle.wc_component_file.proofs.file.core_modules.Given as goal

abbrev pub invariant-loop-frame : goal.invariant-loop-frame
invariant-loop-frame l = map core_module_view l.modules.items ≡ modules_of [] (frame_values (take l.frame-index l.frames))
