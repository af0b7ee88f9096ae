-- Ranges in any order, and sorted ranges after which others are put.
use Rattle.std.specs.Prelude.{ℕ, ◌-◌, ◌≤◌, List, All, max, length, slice_set, slice_index_or}
use Rattle.std.specs.List.Sorted.{IsNonDecreasingBy}

-- no range ends before it begins
abbrev pub AreFilled : List (ℕ × ℕ) → Type 0
AreFilled rs = All (λ (r : ℕ × ℕ). r.0 ≤ r.1) rs

-- no range begins before the one before it
abbrev pub BeginInOrder : List (ℕ × ℕ) → Type 0
BeginInOrder rs = IsNonDecreasingBy (λ (r : ℕ × ℕ). r.0) rs

-- no range begins after a number
abbrev pub BeginBy : ℕ → List (ℕ × ℕ) → Type 0
BeginBy x rs = All (λ (r : ℕ × ℕ). r.0 ≤ x) rs

-- ranges with the last one up to a number at least
abbrev pub lengthened : List (ℕ × ℕ) → ℕ → List (ℕ × ℕ)
lengthened rs x =
    slice_set rs (length rs - 1) ((slice_index_or rs (length rs - 1) (0, 0)).0, max (slice_index_or rs (length rs - 1) (0, 0)).1 x)
