use Rattle.std.proofs.Common.{◌≡◌, ℕ, ◌&&◌, nat_lt}
use Rattle.wc_gc.specs.Bits.{bit_of}
use Rattle.wc_gc.proofs.live.insert_word.Given as goal

abbrev pub invariant-loop-x : goal.invariant-loop-x
invariant-loop-x g l = (y : ℕ) → g.L.LiveSet.has l.set y ≡ (nat_lt y l.x && bit_of l.words y)
