-- The loop that counts locals.
use Rattle.std.proofs.Common.{◌≡◌, ℕ, ◌+◌, ◌^◌, ◌<◌, ◌≤◌, List, length, drop, true, arith}
use Rattle.std.specs.Prelude.{nat_lt}
use Rattle.std.proofs.lemmas.List.{at_drop_all}
use Rattle.std.proofs.lemmas.Bool.Decides.{nat_tests}
use Rattle.wc_read.specs.Bodies.{local_count}
use Rattle.wc_read.specs.declared.bodies.Locals.{Locals}

-- those that were counted, and those that are left
pub record IsCounted (locals : List Locals) (index total : ℕ) : Type 0 where
  pub both : total + local_count (drop index locals) ≡ local_count locals
  pub fits : total < 4294967296

is_less : (n : ℕ) → n < 4294967296 → true ≡ nat_lt n (2 ^ 32)
is_less n less = grind (arith, nat_tests)

pub counted_end : (locals : List Locals) (index total : ℕ) → IsCounted locals index total → length locals ≤ index → true ≡ nat_lt (local_count locals) (2 ^ 32)
counted_end locals index total s all =
    let h = at_drop_all local_count locals index all in
    is_less (local_count locals) (omega (arith, s.both, s.fits))
