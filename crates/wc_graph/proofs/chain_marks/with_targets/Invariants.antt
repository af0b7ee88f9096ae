use Rattle.std.proofs.Common.{length, take}
use Rattle.wc_graph.specs.Private.ChainMarks.{AreTargets}
use Rattle.wc_graph.proofs.chain_marks.with_targets.Given as goal

abbrev pub invariant-loop-target : goal.invariant-loop-target
invariant-loop-target l = AreTargets (take l.target-index l.targets) (length l.fn.marks.items) l.marks.items
