use Rattle.std.proofs.Common.{take}
use Rattle.wc_component_file.specs.Frames.{frame_values}
use Rattle.wc_component_file.specs.Inside.{Counts, IsInside}
use Rattle.wc_component_file.proofs.inside.count_inside.Given as goal

abbrev pub invariant-loop-frame : goal.invariant-loop-frame
invariant-loop-frame l = Counts IsInside (frame_values (take l.frame-index l.frames)) l.count
