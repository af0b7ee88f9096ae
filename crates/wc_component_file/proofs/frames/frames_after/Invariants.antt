use Rattle.std.proofs.Common.{length, map}
use Rattle.wc_component_file.specs.Frames.{frame_value}
use Rattle.wc_component_file.specs.Refusals.{AreFramesTo}
use Rattle.wc_component_file.proofs.frames.frames_after.Given as goal

abbrev pub invariant-loop-reader : goal.invariant-loop-reader
invariant-loop-reader l = AreFramesTo l.fn.bytes (map frame_value l.frames.items) l.reader.rest.now

abbrev pub decreases-loop-reader : goal.decreases-loop-reader
decreases-loop-reader l = length l.reader.rest.now
