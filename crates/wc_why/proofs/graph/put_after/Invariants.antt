use Rattle.std.proofs.Common.{◌≡◌, ◌++◌, ◌+◌, map, take}
use Rattle.wc_why.proofs.graph.put_after.Given as goal

abbrev pub invariant-loop-number : goal.invariant-loop-number
invariant-loop-number l = l.out.items ≡ l.fn.out.items ++ map (λ k. l.count + k) (take l.number-index l.numbers)
