use Rattle.std.proofs.Common.{take}
use Rattle.wc_component_file.specs.Frames.{frame_values}
use Rattle.wc_component_file.specs.Names.{AllNames}
use Rattle.wc_component_file.specs.Private.Names.{name_pairs}
use Rattle.wc_component_file.proofs.names.module_names.Given as goal

abbrev pub invariant-loop-frame : goal.invariant-loop-frame
invariant-loop-frame l = AllNames (frame_values (take l.frame-index l.frames)) (name_pairs l.all.items)
