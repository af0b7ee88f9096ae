-- Dominators in any graph of items that are numbered from 0.
use Rattle.std.specs.Prelude.{◌≡◌, ◌↔◌, ◌<◌, ℕ, Bool, true, List, length, ◌∷◌, false, Contains, Option, slice_index_or}
use Rattle.wc_graph.specs.ChainMarks.{is_set}
use Rattle.std.specs.Option.{option_map_or}
use Rattle.wc_graph.specs.Reached.{IsPath, IsReachedFrom}

-- each path from a root to a target goes through the item
abbrev pub IsOnAllPaths : {X : Type 0} → (X → List X) → List X → List X → X → Type 0
IsOnAllPaths {X} names roots targets x =
    (r t : X) (path : List X) → Contains roots r → Contains targets t → IsPath names r path t → Contains (r ∷ path) x

-- a dominator: an item that is on all these paths, of which there is one, and no target itself
pub record IsDominator {X : Type 0} (names : X → List X) (roots targets : List X) (x : X) : Type 0 where
  pub target : X
  pub asked : Contains targets target
  pub reached : IsReachedFrom names roots target
  pub no_target : ¬ (Contains targets x)
  pub on_all : IsOnAllPaths names roots targets x

abbrev pub mark_at : List Bool → Option ℕ → Bool
mark_at marks place = option_map_or (λ k. slice_index_or marks k false) place false

-- of so many items those that are marked are the dominators of targets
pub record AreGraphDominators (names : ℕ → List ℕ) (size : ℕ) (roots targets : List ℕ) (marks : List Bool) : Type 0 where
  pub sized : length marks ≡ size
  pub marked : (x : ℕ) → x < size → (is_set marks x ≡ true) ↔ IsDominator names roots targets x
