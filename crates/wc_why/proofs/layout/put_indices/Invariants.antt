use Rattle.std.proofs.Common.{◌≡◌, ◌++◌, take}
use Rattle.wc_why.specs.Private.Layout.{indices_of}
use Rattle.wc_why.proofs.layout.put_indices.Given as goal

abbrev pub invariant-loop-index : goal.invariant-loop-index
invariant-loop-index l = l.out.items ≡ l.fn.out.items ++ indices_of (take l.index-index l.indices)
