-- Chains to targets, of what a search found.
use Rattle.std.specs.Prelude.{ℕ, ◌<◌, List, All, MatchOption, Option, Contains}
use Rattle.std.specs.declared.alloc.Global.{Global}
use Rattle.std.specs.declared.vec.Vec.{Vec}
use Rattle.wc_graph.specs.Search.{IsTreeOf}
use Rattle.wc_graph.specs.Private.Ways.{IsChainTo}
use Rattle.wc_graph.specs.declared.tree.Tree.{Tree}
use Rattle.wc_graph.specs.Reached.{IsReachedFrom}

-- no path leads to any of some targets
abbrev pub AreUnreached : (ℕ → List ℕ) → List ℕ → List ℕ → Type 0
AreUnreached names roots targets = (t : ℕ) → Contains targets t → ¬ (IsReachedFrom names roots t)

-- in whatever graph and from whatever roots this was found: a chain to one of the targets, of items that are there; none, where no
-- root leads to any
abbrev pub IsTreeAnswer : Tree → ℕ → List ℕ → Option (Vec ℕ Global) → Type 0
IsTreeAnswer t size targets answer =
    (names : ℕ → List ℕ) (roots : List ℕ) → IsTreeOf names roots t
    → MatchOption answer (AreUnreached names roots targets) (λ chain. IsChainTo names roots targets chain.items × All (λ x. x < size) chain.items)
