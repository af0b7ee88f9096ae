-- Which positions of what a search found are on chains to some of them.
use Rattle.std.specs.Prelude.{◌≡◌, ◌↔◌, ◌<◌, ℕ, Bool, true, false, List, length, Contains, Some}
use Rattle.std.specs.List.{slice_get}
use Rattle.std.specs.Option.{option_map_or}

-- a position is on the chain to one of these: it is one of them, or the finder of one that is
pub data IsOnChain (finder targets : List ℕ) : ℕ → Type 0 where
  here : {k : ℕ} → Contains targets k → IsOnChain finder targets k
  before : {j : ℕ} (k : ℕ) → IsOnChain finder targets k → slice_get finder k ≡ Some j → IsOnChain finder targets j

-- a position is marked exactly where it is on one
pub record AreOnChains (finder targets : List ℕ) (marks : List Bool) : Type 0 where
  pub sized : length marks ≡ length finder
  pub marked : (k : ℕ) → k < length marks → (slice_get marks k ≡ Some true) ↔ IsOnChain finder targets k

-- whether a mark is set
abbrev pub is_set : List Bool → ℕ → Bool
is_set marks n = option_map_or (λ b. b) (slice_get marks n) false
