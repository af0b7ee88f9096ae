use Rattle.std.proofs.Common.{◌≡◌, ◌++◌, take}
use Rattle.wc_component_file.specs.Frames.{frame_values}
use Rattle.wc_component_file.specs.Private.Inside.{components_of}
use Rattle.wc_component_file.proofs.SearchLemmas.{contents_now}
use Rattle.wc_component_file.proofs.inside.add_components.Given as goal

abbrev pub invariant-loop-frame : goal.invariant-loop-frame
invariant-loop-frame l = contents_now l.waiting.items ≡ contents_now l.fn.waiting.items ++ components_of (frame_values (take l.frame-index l.frames))
