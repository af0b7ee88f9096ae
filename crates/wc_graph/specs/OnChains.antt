-- Which items are on the shortest chains from roots to some items.
use Rattle.std.specs.Prelude.{◌≡◌, ◌↔◌, ◌<◌, ℕ, Bool, true, List, length, Contains}
use Rattle.wc_graph.specs.ShortestChains.{IsShortestChain}
use Rattle.wc_graph.specs.ChainMarks.{is_set}
use Rattle.wc_graph.specs.Chains.{AreChains}
use Rattle.wc_graph.specs.declared.chains.Chains.{Chains}

-- an item is on the shortest chain from roots to one of these
pub record IsOnChainTo (names : ℕ → List ℕ) (roots targets : List ℕ) (x : ℕ) : Type 0 where
  pub target : ℕ
  pub asked : Contains targets target
  pub chain : List ℕ
  pub is : IsShortestChain names roots target chain
  pub on : Contains chain x

-- in whatever graph these are the chains from roots, exactly those items are marked that are on the chains to these
pub record AreMarkedTo (c : Chains) (targets : List ℕ) (marks : List Bool) : Type 0 where
  pub sized : length marks ≡ length c.places.items
  pub marked : (names : ℕ → List ℕ) (roots : List ℕ) (size : ℕ) → AreChains names roots size c → (x : ℕ) → x < size
      → (is_set marks x ≡ true) ↔ IsOnChainTo names roots targets x
