use Rattle.std.proofs.Common.{◌≡◌, ℕ}
use Rattle.std.specs.Prelude.{◌||◌}
use Rattle.wc_world.specs.Used.{has_interface}
use Rattle.wc_world.proofs.UsedLemmas.{among}
use Rattle.wc_world.proofs.used.add_all.Given as goal

abbrev pub invariant-loop-id : goal.invariant-loop-id
invariant-loop-id l = (j : ℕ) → (has_interface l.set j || among l.id-iterator j) ≡ (has_interface l.fn.set j || has_interface l.more j)
