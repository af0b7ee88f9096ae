use Rattle.std.proofs.Common.{arith}
use Rattle.wc_component_file.proofs.SearchLemmas.{count_below, counted_yes, counted_no}
use Rattle.wc_component_file.proofs.inside.count_inside.Goals as goal
use Rattle.wc_component_file.proofs.inside.count_inside.Goals.{then-branch, else-branch}

pub overflow_add-count : goal.overflow_add-count
overflow_add-count c = omega (arith, count_below _ _ _ c.loop-frame.invariant c.loop-frame-test.true, c.loop-frame.auto.frame-index-end)

pub loop-frame-preserved : goal.loop-frame-preserved
loop-frame-preserved c = elim c.if-branch.branch [
  | then-branch w ↦ rw w.count-is (counted_yes _ _ _ _ _ c.loop-frame.invariant c.loop-frame-test.true c.in_ok-is_inside.ensures w.if-branch.true)
  | else-branch w ↦ rw w.count-is (counted_no _ _ _ _ _ c.loop-frame.invariant c.loop-frame-test.true c.in_ok-is_inside.ensures w.if-branch.false)
]
