-- Ways, and a search that goes round the items of a way.
use Rattle.std.specs.Prelude.{◌≡◌, ◌≢◌, ◌↔◌, ℕ, ◌+◌, ◌-◌, ◌<◌, ◌≤◌, ◌⊎◌, List, [], ◌∷◌, length, AllPairs, Bool, Contains, IsTrue, Option, Some, None, slice_index_or}
use Rattle.std.specs.List.{slice_get}
use Rattle.wc_graph.specs.Reached.{IsPath}
use Rattle.wc_graph.specs.Dominators.{IsOnAllPaths}

-- a path from a root to a target that has each item once
pub record IsChainTo {X : Type 0} (names : X → List X) (roots targets chain : List X) : Type 0 where
  pub root : X
  pub path : List X
  pub target : X
  pub is : chain ≡ root ∷ path
  pub from : Contains roots root
  pub leads : IsPath names root path target
  pub ends : Contains targets target
  pub once : AllPairs (λ x y. x ≢ y) chain

-- so many items of a chain are those up to the first target, or all
pub record IsCut (targets chain : List ℕ) (count : ℕ) : Type 0 where
  pub within : count ≤ length chain
  pub before : (j : ℕ) → j + 1 < count → ¬ (Contains targets (slice_index_or chain j 0))
  pub ends : (count ≡ length chain) ⊎ ((0 < count) × Contains targets (slice_index_or chain (count - 1) 0))

-- a way: such a path that has no other target
pub record IsWay {X : Type 0} (names : X → List X) (roots targets way : List X) : Type 0 where
  pub root : X
  pub path : List X
  pub target : X
  pub is : way ≡ root ∷ path
  pub from : Contains roots root
  pub leads : IsPath names root path target
  pub ends : Contains targets target
  pub once : AllPairs (λ x y. x ≢ y) way
  pub only : (k : ℕ) (x : X) → k + 1 < length way → slice_get way k ≡ Some x → ¬ (Contains targets x)

-- of a way the items that are marked: those that are on all paths, and no targets themselves
pub record AreDominators {X : Type 0} (names : X → List X) (roots targets way : List X) (marks : List Bool) : Type 0 where
  pub each : length marks ≡ length way
  pub at : (k : ℕ) (x : X) (mark : Bool) → slice_get way k ≡ Some x → slice_get marks k ≡ Some mark
      → IsTrue mark ↔ (¬ (Contains targets x) × IsOnAllPaths names roots targets x)

-- the position of an item in a way, if it is there; a target is at the end
abbrev pub held_at : List (Option ℕ) → ℕ → Option ℕ
held_at positions x = slice_index_or positions x None

pub record ArePositions (targets way : List ℕ) (size : ℕ) (positions : List (Option ℕ)) : Type 0 where
  pub each : length positions ≡ size
  pub targets_at : (x : ℕ) → Contains targets x → held_at positions x ≡ Some (length way - 1)
  pub way_at : (k : ℕ) → k + 1 < length way → held_at positions (slice_index_or way k 0) ≡ Some k
  pub from : (x k : ℕ) → held_at positions x ≡ Some k → (Contains targets x × (k + 1 ≡ length way)) ⊎ ((k + 1 < length way) × (slice_index_or way k 0 ≡ x))

-- some items are now at this position, and the others where they were
pub record IsStopped (items : List ℕ) (last : ℕ) (old now : List (Option ℕ)) : Type 0 where
  pub sized : length now ≡ length old
  pub at : (x : ℕ) → (Contains items x × (held_at now x ≡ Some last)) ⊎ (¬ (Contains items x) × (held_at now x ≡ held_at old x))

-- a search may go on from an item once it has gone on from so many items of the way
abbrev pub IsOpen : List (Option ℕ) → ℕ → ℕ → Type 0
IsOpen positions k x = (j : ℕ) → held_at positions x ≡ Some j → j < k

-- a path on which it may go on from each item but the last
abbrev pub IsOpenPath : (ℕ → List ℕ) → List (Option ℕ) → ℕ → ℕ → List ℕ → ℕ → Type 0
IsOpenPath names positions k x [] y = x ≡ y
IsOpenPath names positions k x (z ∷ zs) y = IsOpen positions k x × Contains (names x) z × IsOpenPath names positions k z zs y

abbrev pub IsOpenTo : (ℕ → List ℕ) → List ℕ → List (Option ℕ) → ℕ → ℕ → Type 0
IsOpenTo names roots positions k x = (r : ℕ) × Contains roots r × (path : List ℕ) × IsOpenPath names positions k r path x

-- what was found, of which so many were passed, once the search has gone on from so many items of the way; and the last
-- position of the way that was passed
pub record IsFront (names : ℕ → List ℕ) (roots way : List ℕ) (positions : List (Option ℕ)) (k : ℕ) (found : List ℕ) (next last : ℕ) : Type 0 where
  pub within : next ≤ length found
  pub rooted : (x : ℕ) → Contains roots x → Contains found x
  pub opened : (j x : ℕ) → j < k → Contains (names (slice_index_or way j 0)) x → Contains found x
  pub passed : (i x : ℕ) → i < next → held_at positions (slice_index_or found i 0) ≡ None → Contains (names (slice_index_or found i 0)) x → Contains found x
  pub open_to : (i : ℕ) → i < length found → IsOpenTo names roots positions k (slice_index_or found i 0)
  pub most : (i j : ℕ) → i < next → held_at positions (slice_index_or found i 0) ≡ Some j → j ≤ last
  pub is_last : (last ≡ 0) ⊎ ((i : ℕ) × (i < next) × (held_at positions (slice_index_or found i 0) ≡ Some last))
