-- Numbers in an order, and the position of each.
use Rattle.std.specs.Prelude.{◌≡◌, ℕ, ◌<◌, length}
use Rattle.std.specs.List.{slice_index}
use Rattle.wc_gc.specs.declared.kept_order.KeptOrder.{KeptOrder}

-- the position that is noted for a number is its position
pub record HasPosition (p : KeptOrder) (n : ℕ) : Type 0 where
  pub noted : n < length p.positions.items
  pub within : slice_index p.positions.items n < length p.order.items
  pub there : slice_index p.order.items (slice_index p.positions.items n) ≡ n
