use Rattle.std.proofs.Common.{ℕ, IsTrue, take}
use Rattle.std.specs.List.{Contains}
use Rattle.wc_resolve.specs.Marks.{is_marked}
use Rattle.wc_resolve.specs.Roots.{indices}
use Rattle.wc_resolve.proofs.marks.unmark.Given as goal

abbrev pub invariant-loop-id : goal.invariant-loop-id
invariant-loop-id l = (x : ℕ) → IsTrue (is_marked l.marks x) → IsTrue (is_marked l.fn.marks x) × ¬ Contains (indices (take l.id-index l.ids)) x
