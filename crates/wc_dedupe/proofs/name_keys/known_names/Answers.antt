use Rattle.std.proofs.Common.{length, ap, arith}
use Rattle.wc_dedupe.proofs.NameKeyLemmas.{positions_below, through}
use Rattle.wc_dedupe.proofs.name_keys.known_names.Goals as goal

pub positions_through-requires : goal.positions_through-requires
positions_through-requires c =
    let below = positions_below _ _ _ c.in_ok-few.ensures in
    let second = rw c.deref.ensures.value at c.in_ok-known.ensures.1 in
    rw c.deref-2.ensures.value (λ k d lt. omega (arith, below k d lt, second.as_long, ap length c.deref-3.ensures.value))

pub returns : goal.returns
returns c =
    let second = rw c.deref.ensures.value at c.in_ok-known.ensures.1 in (
      c.in_ok-known.ensures.0,
      rw (c.in_ok-positions.ensures, c.deref-2.ensures.value, c.deref-3.ensures.value) (through _ _ _ _ _ c.in_ok-few.ensures second),
    )
