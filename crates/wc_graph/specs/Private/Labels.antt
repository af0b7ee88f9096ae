-- Labels on their way: what has come to each item, and the items that have yet to pass it on.
use Rattle.std.specs.Prelude.{◌≡◌, ℕ, ◌+◌, ◌-◌, ◌^◌, ◌<◌, ◌≤◌, ◌⊎◌, List, [], ◌∷◌, ◌++◌, Contains, length, slice_index, bit_or}
use Rattle.std.specs.Int.{bit_at}
use Rattle.std.specs.List.{sum_by}
use Rattle.wc_graph.specs.Labels.{HasLabel, IsLabelledFrom}
use Rattle.wc_graph.specs.declared.labels.Spreading.{Spreading}

-- a word with the labels of two, which is more than the first
pub record IsJoined (old word all : ℕ) : Type 0 where
  pub is : all ≡ bit_or old word
  pub more : old < all
  pub fits : all < 2 ^ 64

-- an item was noted, or has no labels
abbrev pub IsNoted : ℕ → ℕ → List ℕ → List ℕ → Type 0
IsNoted item word old new = ((word ≡ 0) × (new ≡ old)) ⊎ (new ≡ old ++ item ∷ [])

-- the first of some items were noted, those without labels left out
pub record AreNoted (labels : List ℕ) (count : ℕ) (waiting : List ℕ) : Type 0 where
  pub all : (x : ℕ) → x < count → Contains waiting x ⊎ (slice_index labels x ≡ 0)
  pub there : (x : ℕ) → Contains waiting x → x < count

-- how much is yet to be done at most
abbrev pub left : List ℕ → List ℕ → ℕ
left words waiting = sum_by (λ (word : ℕ). 2 ^ 64 - word) words + length waiting

-- a word's labels have come to some items, and what has changed waits
pub record HasCome (word : ℕ) (items words waiting words' waiting' : List ℕ) : Type 0 where
  pub size : length words' ≡ length words
  pub come : (x label : ℕ) → Contains items x → bit_at word label ≡ 1 → HasLabel words' x label
  pub kept : (x label : ℕ) → HasLabel words x label → HasLabel words' x label
  pub only : (x label : ℕ) → HasLabel words' x label → HasLabel words x label ⊎ (Contains items x × (bit_at word label ≡ 1))
  pub changed : (x : ℕ) → Contains waiting' x ⊎ (slice_index words' x ≡ slice_index words x)
  pub waits : (x : ℕ) → Contains waiting x → Contains waiting' x
  pub there : (x : ℕ) → Contains waiting' x → Contains waiting x ⊎ Contains items x
  pub less : left words' waiting' ≤ left words waiting

abbrev pub Comes : ℕ → List ℕ → Spreading → Spreading → Type 0
Comes word items old new = HasCome word items old.words.items old.waiting.items new.words.items new.waiting.items

-- labels that have come along paths; an item that doesn't wait has passed on all that it has
pub record IsSpreading (names : ℕ → List ℕ) (labels words waiting : List ℕ) : Type 0 where
  pub size : length words ≡ length labels
  pub begun : (x label : ℕ) → HasLabel labels x label → HasLabel words x label
  pub led : (x label : ℕ) → HasLabel words x label → IsLabelledFrom names labels x label
  pub passed : (x : ℕ) → Contains waiting x ⊎ ((y label : ℕ) → Contains (names x) y → HasLabel words x label → HasLabel words y label)
  pub there : (x : ℕ) → Contains waiting x → x < length labels
