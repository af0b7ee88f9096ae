-- Which labels lead to an item: labels are bits of words, a word for each item.
use Rattle.std.specs.Prelude.{◌≡◌, ◌↔◌, ℕ, List, length, slice_index}
use Rattle.std.specs.Int.{bit_at}
use Rattle.wc_graph.specs.Reached.{IsPath}

-- an item has a label
abbrev pub HasLabel : List ℕ → ℕ → ℕ → Type 0
HasLabel words item label = bit_at (slice_index words item) label ≡ 1

-- a path leads to an item from one that has a label
abbrev pub IsLabelledFrom : (ℕ → List ℕ) → List ℕ → ℕ → ℕ → Type 0
IsLabelledFrom names words item label = (first : ℕ) × HasLabel words first label × (path : List ℕ) × IsPath names first path item

-- each item has the labels of all from which a path leads to it, and no other
pub record IsSpread (names : ℕ → List ℕ) (labels words : List ℕ) : Type 0 where
  pub each : length words ≡ length labels
  pub labelled : (item label : ℕ) → HasLabel words item label ↔ IsLabelledFrom names labels item label
