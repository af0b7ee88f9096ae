use Rattle.std.proofs.Common.{◌≡◌, ℕ, get_or, map, take}
use Rattle.wc_dedupe.proofs.name_keys.positions_through.Given as goal

abbrev pub invariant-loop-position : goal.invariant-loop-position
invariant-loop-position l = l.found.items ≡ map (λ (p : ℕ). get_or l.further p 0) (take l.position-index l.positions)
