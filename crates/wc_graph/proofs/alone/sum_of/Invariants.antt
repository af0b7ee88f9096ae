use Rattle.std.proofs.Common.{◌≡◌, ◌-◌, ◌^◌, ℕ, min, take}
use Rattle.std.specs.List.{sum_by}
use Rattle.wc_graph.proofs.alone.sum_of.Given as goal

abbrev pub invariant-loop-size : goal.invariant-loop-size
invariant-loop-size l = l.sum ≡ min (sum_by (λ (n : ℕ). n) (take l.size-index l.sizes)) (2 ^ 64 - 1)
