-- Indices in sorted ranges.
use Rattle.std.specs.Prelude.{◌≡◌, ℕ, zero, suc, ◌*◌, ◌-◌, ◌≤◌, ◌<◌, List, [], ◌∷◌, length, remove, slice_set, slice_index_or}

-- the ranges before an index end before a number, and the one at it does not
abbrev pub IsCut : ℕ → List (ℕ × ℕ) → ℕ → Type 0
IsCut x [] i = i ≡ 0
IsCut x (r ∷ rs) zero = x ≤ r.1
IsCut x (r ∷ rs) (suc i) = (r.1 < x) × IsCut x rs i

-- the same of indices
abbrev pub IsCutAt : ℕ → List (ℕ × ℕ) → ℕ → Type 0
IsCutAt x rs i =
    (i ≤ length rs) × ((k : ℕ) (d : ℕ × ℕ) → k < i → (slice_index_or rs k d).1 < x)
    × ((k : ℕ) (d : ℕ × ℕ) → i ≤ k → k < length rs → x ≤ (slice_index_or rs k d).1)

-- for each block of numbers the first range that ends in it or later
abbrev pub AreStarts : ℕ → List (ℕ × ℕ) → List ℕ → Type 0
AreStarts block rs starts = (b : ℕ) → IsCutAt (b * block) rs (slice_index_or starts b (length rs))

-- ranges with the one at an index and the one before it as one
abbrev pub joined_at : List (ℕ × ℕ) → ℕ → List (ℕ × ℕ)
joined_at rs i = remove (slice_set rs (i - 1) ((slice_index_or rs (i - 1) (0, 0)).0, (slice_index_or rs i (0, 0)).1)) i
