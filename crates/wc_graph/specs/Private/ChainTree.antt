-- A tree that grows.
use Rattle.std.specs.Prelude.{◌≡◌, ◌≢◌, ℕ, List, [], ◌∷◌, ◌++◌, length, All, AllPairs, Contains, Option, Some, None, set}
use Rattle.std.specs.List.{slice_get}
use Rattle.wc_graph.specs.ChainMarks.{IsOnChain}
use Rattle.wc_graph.specs.ChainTree.{HasFroms, IsEnd}
use Rattle.wc_graph.specs.declared.chain_tree.Growth.{Growth}

-- what it has so far, and where each position is
pub record IsGrowthOf (finder order : List ℕ) (from places : List (Option ℕ)) : Type 0 where
  pub sized : length places ≡ length finder
  pub even : length from ≡ length order
  pub once : AllPairs (λ j k. j ≢ k) order
  pub froms : HasFroms finder order from
  pub placed : (k place : ℕ) → slice_get places k ≡ Some (Some place) → slice_get order place ≡ Some k
  pub missing : (k : ℕ) → slice_get places k ≡ Some None → ¬ (Contains order k)

abbrev pub IsGrowth : List ℕ → Growth → Type 0
IsGrowth finder g = IsGrowthOf finder g.order.items g.from.items g.places.items

-- positions are on the chain to a target, if there is one
abbrev pub AreFor : List ℕ → Option ℕ → List ℕ → Type 0
AreFor finder None ks = ks ≡ []
AreFor finder (Some target) ks = All (IsOnChain finder (target ∷ [])) ks

-- the chain to a position was added, whose place this is
pub record IsGrown (finder : List ℕ) (target : ℕ) (old new : Growth) (end : ℕ) : Type 0 where
  pub growth : IsGrowth finder new
  pub more : List ℕ
  pub order : new.order.items ≡ old.order.items ++ more
  pub used : AreFor finder (Some target) more
  pub is : slice_get new.order.items end ≡ Some target

-- the same, if there is a position
pub record IsGrownIf (finder : List ℕ) (target : Option ℕ) (old new : Growth) (end : Option ℕ) : Type 0 where
  pub growth : IsGrowth finder new
  pub more : List ℕ
  pub order : new.order.items ≡ old.order.items ++ more
  pub used : AreFor finder target more
  pub is : IsEnd new.order.items target end

-- a position was appended, whose place this is
pub record IsPut (position : ℕ) (after : Option ℕ) (old new : Growth) (place : ℕ) : Type 0 where
  pub at : place ≡ length old.order.items
  pub order : new.order.items ≡ old.order.items ++ position ∷ []
  pub from : new.from.items ≡ old.from.items ++ after ∷ []
  pub places : new.places.items ≡ set old.places.items position (Some place)

-- the positions on the chain to one that have no place, from it back; and the place of the one before them, if there is one
pub data IsNewPart (finder : List ℕ) (places : List (Option ℕ)) : ℕ → List ℕ → Option ℕ → Type 0 where
  none_new : (k place : ℕ) → slice_get places k ≡ Some (Some place) → IsNewPart finder places k [] (Some place)
  new_root : (k : ℕ) → slice_get places k ≡ Some None → slice_get finder k ≡ Some k → IsNewPart finder places k (k ∷ []) None
  one_new : (k j : ℕ) (new : List ℕ) (after : Option ℕ) → slice_get places k ≡ Some None → slice_get finder k ≡ Some j → j ≢ k
      → IsNewPart finder places j new after → IsNewPart finder places k (k ∷ new) after
