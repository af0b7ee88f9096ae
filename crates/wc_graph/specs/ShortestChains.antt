-- The shortest chain from roots to a thing, and of several the first.
use Rattle.std.specs.Prelude.{◌≡◌, ◌≢◌, ℕ, ◌<◌, ◌≤◌, List, [], ◌∷◌, ◌++◌, length, Contains, ⊤, ◌⊎◌, Some, slice_index_or}
use Rattle.std.specs.List.{slice_get}
use Rattle.wc_graph.specs.Reached.{IsPath}

-- a thing is in a list before another
abbrev pub IsBefore : {X : Type 0} → List X → X → X → Type 0
IsBefore xs x y = (k : ℕ) × (k < length xs) × (slice_index_or xs k x ≡ x) × ((j : ℕ) → j ≤ k → slice_index_or xs j x ≢ y)

-- of two chains of one length, this one has, where they first differ, the thing that is earlier in what could be chosen there:
-- the roots, and then what the thing before names
abbrev pub IsNotAfter : {X : Type 0} → (X → List X) → List X → List X → List X → Type 0
IsNotAfter names choices [] other = ⊤
IsNotAfter names choices (x ∷ chain) [] = ⊤
IsNotAfter names choices (x ∷ chain) (y ∷ other) = ((x ≡ y) × IsNotAfter names (names x) chain other) ⊎ IsBefore choices x y

-- a root and a path from it to the target, and no path from any root is shorter, or as long and before it
pub record IsShortestChain {X : Type 0} (names : X → List X) (roots : List X) (target : X) (chain : List X) : Type 0 where
  pub root : X
  pub path : List X
  pub is : chain ≡ root ∷ path
  pub from : Contains roots root
  pub leads : IsPath names root path target
  pub shortest : (r : X) (other : List X) → Contains roots r → IsPath names r other target → length path ≤ length other
  pub first : (r : X) (other : List X) → Contains roots r → IsPath names r other target → length other ≡ length path
      → IsNotAfter names roots (root ∷ path) (r ∷ other)

-- what was found, and for each the position of its finder, or its own: the chain of a position is that of its finder, and
-- what was found
pub data IsFinderChain {X : Type 0} (found : List X) (finder : List ℕ) : ℕ → List X → Type 0 where
  at_root : (k : ℕ) (x : X) → slice_get found k ≡ Some x → slice_get finder k ≡ Some k → IsFinderChain found finder k (x ∷ [])
  at_named : (k j : ℕ) (x : X) (chain : List X) → slice_get found k ≡ Some x → slice_get finder k ≡ Some j → j ≢ k
      → IsFinderChain found finder j chain → IsFinderChain found finder k (chain ++ x ∷ [])

-- each finder is found no later than what it finds
pub record AreFinders {X : Type 0} (found : List X) (finder : List ℕ) : Type 0 where
  pub sized : length finder ≡ length found
  pub earlier : (k : ℕ) → k < length found → slice_index_or finder k 0 ≤ k
