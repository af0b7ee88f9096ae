-- What a search finds, of items that are numbered from 0.
use Rattle.std.specs.Prelude.{◌≡◌, ◌≢◌, ◌↔◌, ℕ, List, AllPairs, Bool, false, Contains, Some, ⊤}
use Rattle.std.specs.List.{slice_get}
use Rattle.wc_graph.specs.ShortestChains.{IsFinderChain, IsShortestChain}
use Rattle.wc_graph.specs.Reached.{IsReachedFrom}
use Rattle.wc_graph.specs.declared.search.SearchFault.{SearchFault}
use Rattle.wc_graph.specs.declared.search.SearchFault.TheVariants.{Memory, NotClosed}
use Rattle.wc_graph.specs.declared.tree.Tree.{Tree}

-- all that roots reach, each once, with finders that make shortest chains
pub record IsTreeOf (names : ℕ → List ℕ) (roots : List ℕ) (t : Tree) : Type 0 where
  pub reached : (x : ℕ) → Contains t.order.items x ↔ IsReachedFrom names roots x
  pub once : AllPairs (λ x y. x ≢ y) t.order.items
  pub chains : (k x : ℕ) (chain : List ℕ) → slice_get t.order.items k ≡ Some x → IsFinderChain t.order.items t.finder.items k chain → IsShortestChain names roots x chain

-- memory ran out, or an item is reached that names what is not there
abbrev pub IsSearchFault : (ℕ → List ℕ) → (ℕ → Bool) → List ℕ → SearchFault → Type 0
IsSearchFault names is_closed roots Memory = ⊤
IsSearchFault names is_closed roots (NotClosed x) = IsReachedFrom names roots x × (is_closed x ≡ false)
