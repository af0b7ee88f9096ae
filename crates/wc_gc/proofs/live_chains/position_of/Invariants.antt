use Rattle.std.proofs.Common.{◌≡◌, ℕ, ◌<◌, get_or}
use Rattle.wc_gc.proofs.live_chains.position_of.Given as goal

abbrev pub invariant-loop-position : goal.invariant-loop-position
invariant-loop-position l = (k : ℕ) → k < l.position → get_or l.order k l.item ≡ l.item → ⊥
