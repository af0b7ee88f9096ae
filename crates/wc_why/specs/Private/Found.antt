-- What the roots of some lists reach, one list after another.
use Rattle.std.specs.Prelude.{◌≡◌, ◌⊎◌, ℕ, ◌+◌, ◌<◌, ◌≤◌, List, All, Contains, length, map, set, Option, Some, None, slice_index_or}
use Rattle.std.specs.List.{slice_get}
use Rattle.wc_graph.specs.Private.Places.{place_at}
use Rattle.wc_graph.specs.Reached.{IsReachedFrom}
use Rattle.wc_graph.specs.ShortestChains.{IsFinderChain}
use Rattle.wc_why.specs.Graph.{names_in}
use Rattle.wc_why.specs.Part.{PartView}
use Rattle.wc_why.specs.Paths.{IsFirstPath, IsUnreached}
use Rattle.wc_why.specs.Private.Numbers.{place_of, total}
use Rattle.wc_why.specs.declared.found.Found.{Found}
use Rattle.wc_why.specs.declared.numbers.Numbers.{Numbers}

-- an item has a position, to which its path leads
pub record IsPlaced (parts : List PartView) (n : Numbers) (lists : List (List (ℕ × ℕ))) (order finder : List ℕ) (places : List (Option ℕ)) (x k : ℕ) : Type 0 where
  pub there : slice_get order k ≡ Some x
  pub chain : List ℕ
  pub has : IsFinderChain order finder k chain
  pub list : ℕ
  pub leads : IsFirstPath (names_in parts) lists (place_of n x) list (map (place_of n) chain)
  pub finder_placed : (j : ℕ) → slice_get finder k ≡ Some j → (z : ℕ) × (place_at places z ≡ Some j)

pub record IsFoundOf (parts : List PartView) (n : Numbers) (lists : List (List (ℕ × ℕ))) (order finder : List ℕ) (places : List (Option ℕ)) : Type 0 where
  pub sized : length finder ≡ length order
  pub each : length places ≡ total n
  pub earlier : (k : ℕ) → k < length finder → slice_index_or finder k 0 ≤ k
  pub inside : All (λ x. x < total n) order
  pub missing : (x : ℕ) → x < total n → place_at places x ≡ None → IsUnreached (names_in parts) lists (place_of n x)
  pub placed : (x k : ℕ) → place_at places x ≡ Some k → IsPlaced parts n lists order finder places x k
  pub reached_there : (j : ℕ) (roots : List (ℕ × ℕ)) → slice_get lists j ≡ Some roots → (y : ℕ × ℕ) → IsReachedFrom (names_in parts) roots y
      → (x : ℕ) × (x < total n) × (place_of n x ≡ y)

abbrev pub IsFound : List PartView → Numbers → List (List (ℕ × ℕ)) → Found → Type 0
IsFound parts n lists f = IsFoundOf parts n lists f.order.items f.finder.items f.places.items

-- the position of an item was noted, unless it had one
pub record IsNoted (x place : ℕ) (old new : List (Option ℕ)) : Type 0 where
  pub kept : (k : ℕ) → place_at old x ≡ Some k → new ≡ old
  pub noted : place_at old x ≡ None → new ≡ set old x (Some place)

-- the positions of some items, which come after so many others
pub record AreNoted (count : ℕ) (items : List ℕ) (old new : List (Option ℕ)) : Type 0 where
  pub sized : length new ≡ length old
  pub kept : (x k : ℕ) → place_at old x ≡ Some k → place_at new x ≡ Some k
  pub none : (x : ℕ) → place_at new x ≡ None → (place_at old x ≡ None) × ¬ (Contains items x)
  pub some : (x k : ℕ) → place_at new x ≡ Some k → (place_at old x ≡ Some k) ⊎ ((place_at old x ≡ None) × (j : ℕ) × (k ≡ count + j) × (slice_get items j ≡ Some x))
