-- The chains to some positions of what a search found, as a tree.
use Rattle.std.specs.Prelude.{◌≡◌, ◌≢◌, ◌<◌, ◌↔◌, ⊤, ℕ, List, length, take, All, AllPairs, Contains, Option, Some, None}
use Rattle.std.specs.List.{filter_map, slice_get}
use Rattle.wc_graph.specs.ChainMarks.{IsOnChain}
use Rattle.wc_graph.specs.declared.chain_tree.ChainTree.{ChainTree}

-- the one before a position: none, where it is its own finder; else the place of its finder, which is earlier
abbrev pub IsFromOf : List ℕ → List ℕ → ℕ → ℕ → Option ℕ → Type 0
IsFromOf finder order place k None = slice_get finder k ≡ Some k
IsFromOf finder order place k (Some earlier) =
    (j : ℕ) × (slice_get finder k ≡ Some j) × (j ≢ k) × (earlier < place) × (slice_get order earlier ≡ Some j)

-- each position has the one before it
abbrev pub HasFroms : List ℕ → List ℕ → List (Option ℕ) → Type 0
HasFroms finder order from =
    (place k : ℕ) → slice_get order place ≡ Some k → (before : Option ℕ) × (slice_get from place ≡ Some before) × IsFromOf finder order place k before

-- a position is inside, where there is one
abbrev pub IsInside : List ℕ → Option ℕ → Type 0
IsInside finder None = ⊤
IsInside finder (Some k) = k < length finder

-- the place of a position, where there is one
abbrev pub IsEnd : List ℕ → Option ℕ → Option ℕ → Type 0
IsEnd order None end = end ≡ None
IsEnd order (Some k) end = (place : ℕ) × (end ≡ Some place) × (slice_get order place ≡ Some k)

-- of some positions those that there are
abbrev pub given : List (Option ℕ) → List ℕ
given targets = filter_map (λ (o : Option ℕ). o) targets

-- the positions on the chains to the targets, each once, in the order of first use, with the one before it; and the place of each target
pub record IsChainTree (finder : List ℕ) (targets : List (Option ℕ)) (t : ChainTree) : Type 0 where
  pub even : length t.from.items ≡ length t.order.items
  pub once : AllPairs (λ j k. j ≢ k) t.order.items
  pub used : All (IsOnChain finder (given targets)) t.order.items
  -- so many positions, the first, are those on the chains to the first n targets
  pub in_order : (n : ℕ) → (count : ℕ) × ((k : ℕ) → Contains (take count t.order.items) k ↔ IsOnChain finder (given (take n targets)) k)
  pub froms : HasFroms finder t.order.items t.from.items
  pub each : length t.ends.items ≡ length targets
  pub ends : (n : ℕ) (o : Option ℕ) → slice_get targets n ≡ Some o → (end : Option ℕ) × (slice_get t.ends.items n ≡ Some end) × IsEnd t.order.items o end
