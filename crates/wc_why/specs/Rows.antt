-- What the items of a graph name, as one list.
use Rattle.std.specs.Prelude.{◌≡◌, ℕ, ◌+◌, ◌<◌, Bool, false, List, length, slice_index_or}
use Rattle.std.specs.List.{slice_range}

-- what an item names: from its start up to that of the next
abbrev pub row_in : List ℕ → List ℕ → ℕ → List ℕ
row_in starts names n = slice_range names (slice_index_or starts n 0) (slice_index_or starts (n + 1) 0)

-- of so many items, what each names, and whether it is closed
pub record AreRowsOf (size : ℕ) (names : ℕ → List ℕ) (is_closed : ℕ → Bool) (starts all : List ℕ) (closed : List Bool) : Type 0 where
  pub sized : length closed ≡ size
  pub named : (n : ℕ) → n < size → row_in starts all n ≡ names n
  pub closes : (n : ℕ) → n < size → slice_index_or closed n false ≡ is_closed n
