-- What items name, one after another.
use Rattle.std.specs.Prelude.{◌≡◌, ℕ, ◌+◌, ◌<◌, ◌≤◌, List, All, length, slice_index_or}
use Rattle.wc_why.specs.Rows.{row_in}

-- so many starts and the end of all, in order
pub record AreStarts (starts : List ℕ) (all count : ℕ) : Type 0 where
  pub each : length starts ≡ count + 1
  pub rising : (n : ℕ) → n < count → slice_index_or starts n 0 ≤ slice_index_or starts (n + 1) 0
  pub within : (n : ℕ) → slice_index_or starts n 0 ≤ all

-- each names items alone that are there
abbrev pub HasRowsBelow : List ℕ → List ℕ → ℕ → Type 0
HasRowsBelow starts names count = (n : ℕ) → n < count → All (λ m. m < count) (row_in starts names n)
