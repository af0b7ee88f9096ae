-- The shortest chain to each item that roots reach, of items that are numbered from 0.
use Rattle.std.specs.Prelude.{ℕ, List, MatchOption, Option}
use Rattle.std.specs.declared.alloc.Global.{Global}
use Rattle.std.specs.declared.vec.Vec.{Vec}
use Rattle.wc_graph.specs.ShortestChains.{IsShortestChain}
use Rattle.wc_graph.specs.Reached.{IsReachedFrom}
use Rattle.wc_graph.specs.Search.{IsTreeOf}
use Rattle.wc_graph.specs.Tree.{ArePlaces}
use Rattle.wc_graph.specs.declared.chains.Chains.{Chains}

-- all that roots reach, with finders that make shortest chains, and where each of so many items is there
pub record AreChains (names : ℕ → List ℕ) (roots : List ℕ) (size : ℕ) (c : Chains) : Type 0 where
  pub tree : IsTreeOf names roots c.tree
  pub places : ArePlaces c.tree.order.items size c.places.items

-- in whatever graph these are the chains from roots: the shortest, and of several the first; none, where none leads there
abbrev pub IsChainAnswer : Chains → ℕ → Option (Vec ℕ Global) → Type 0
IsChainAnswer c x answer = (names : ℕ → List ℕ) (roots : List ℕ) (size : ℕ) → AreChains names roots size c →
    MatchOption answer (¬ (IsReachedFrom names roots x)) (λ chain. IsShortestChain names roots x chain.items)
