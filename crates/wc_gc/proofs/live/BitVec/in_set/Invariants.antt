use Rattle.std.proofs.Common.{◌≡◌, ◌*◌, ℕ, ◌&&◌, nat_lt}
use Rattle.wc_gc.specs.Bits.{bit_of}
use Rattle.wc_gc.proofs.live.BitVec.in_set.Given as goal

abbrev pub invariant-loop-index : goal.invariant-loop-index
invariant-loop-index g l = (y : ℕ) → g.L.LiveSet.has l.set y ≡ (nat_lt y (l.index * 64) && bit_of l.self.words.items y)
