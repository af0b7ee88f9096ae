-- What was found, and for each the position of its finder.
use Rattle.std.specs.Prelude.{◌≡◌, ◌≢◌, ℕ, ◌+◌, ◌<◌, ◌≤◌, List, length, Contains, AllPairs, ◌⊎◌, slice_index_or}
use Rattle.wc_graph.specs.ShortestChains.{IsBefore}

-- a thing is in a list at a position whose depth is at most so much
abbrev pub IsFoundWithin : {X : Type 0} → List X → (ℕ → ℕ) → X → ℕ → Type 0
IsFoundWithin found depth y most = (j : ℕ) × (j < length found) × (slice_index_or found j y ≡ y) × (depth j ≤ most)

-- the thing at a position is a root, and its own finder
abbrev pub IsRootAt : {X : Type 0} → List X → List X → List ℕ → (ℕ → ℕ) → ℕ → X → Type 0
IsRootAt roots found finder depth k d = (slice_index_or finder k 0 ≡ k) × Contains roots (slice_index_or found k d) × (depth k ≡ 0)

-- the thing at a position is named by one that was found before it, one less deep
abbrev pub IsNamedAt : {X : Type 0} → (X → List X) → List X → List ℕ → (ℕ → ℕ) → ℕ → X → Type 0
IsNamedAt names found finder depth k d =
    (slice_index_or finder k 0 < k)
    × Contains (names (slice_index_or found (slice_index_or finder k 0) d)) (slice_index_or found k d)
    × (depth k ≡ depth (slice_index_or finder k 0) + 1)

-- the things found so far, each with the position of its finder and how deep it is, of which so many were gone through
pub record IsTree {X : Type 0} (names : X → List X) (roots found : List X) (finder : List ℕ) (depth : ℕ → ℕ) (next : ℕ) : Type 0 where
  pub distinct : AllPairs (λ x y. x ≢ y) found
  pub sized : length finder ≡ length found
  pub within : next ≤ length found
  pub from : (x : X) → Contains roots x → IsFoundWithin found depth x 0
  pub steps : (k : ℕ) (d : X) → k < length found → IsRootAt roots found finder depth k d ⊎ IsNamedAt names found finder depth k d
  pub sorted : (j k : ℕ) → j ≤ k → k < length found → depth j ≤ depth k
  pub near : (k : ℕ) → k < length found → next < length found → depth k ≤ depth next + 1
  pub passed : (k : ℕ) (d y : X) → k < next → Contains (names (slice_index_or found k d)) y → IsFoundWithin found depth y (depth k + 1)

-- things of one finder are in the order in which it names them, and no thing before a finder names what it found
pub record IsOrdered {X : Type 0} (names : X → List X) (roots found : List X) (finder : List ℕ) (depth : ℕ → ℕ) (next : ℕ) : Type 0 where
  pub behind : (k : ℕ) → k < length found → 0 < depth k → slice_index_or finder k 0 < next
  pub rising : (i j : ℕ) → i ≤ j → j < length found → 0 < depth i → slice_index_or finder i 0 ≤ slice_index_or finder j 0
  pub roots_ordered : (i j : ℕ) (d : X) → i < j → j < length found → depth j ≡ 0 → IsBefore roots (slice_index_or found i d) (slice_index_or found j d)
  pub names_ordered : (i j : ℕ) (d : X) → i < j → j < length found → 0 < depth i → slice_index_or finder i 0 ≡ slice_index_or finder j 0
      → IsBefore (names (slice_index_or found (slice_index_or finder i 0) d)) (slice_index_or found i d) (slice_index_or found j d)
  pub none_before : (k j : ℕ) (d : X) → k < length found → 0 < depth k → j < slice_index_or finder k 0
      → ¬ (Contains (names (slice_index_or found j d)) (slice_index_or found k d))

-- all that roots reach was found, each with the position of its finder, none before what is less deep
abbrev pub AreFound : {X : Type 0} → (X → List X) → List X → List X → List ℕ → Type 0
AreFound names roots found finder = (depth : ℕ → ℕ) × IsTree names roots found finder depth (length found) × IsOrdered names roots found finder depth (length found)
