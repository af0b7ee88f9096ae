use Rattle.std.proofs.Common.{◌≤◌, length}
use Rattle.wc_graph.specs.Private.ChainMarks.{AreTaken}
use Rattle.wc_graph.proofs.chain_marks.with_finders.Given as goal

abbrev pub invariant-loop-index : goal.invariant-loop-index
invariant-loop-index l = record {
  taken : AreTaken l.finder l.fn.marks.items l.index l.marks.items;
  inside : l.index ≤ length l.fn.marks.items;
}

abbrev pub decreases-loop-index : goal.decreases-loop-index
decreases-loop-index l = l.index
