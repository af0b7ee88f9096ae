-- Paths from several lists of roots: the path to an item is from the first list that leads there.
use Rattle.std.specs.Prelude.{◌≡◌, ◌≢◌, ◌<◌, ◌↔◌, ℕ, List, [], ◌∷◌, ◌++◌, length, take, All, AllPairs, Contains, MatchOption, Option, Some, None}
use Rattle.std.specs.List.{slice_get}
use Rattle.wc_graph.specs.Reached.{IsReachedFrom}
use Rattle.wc_graph.specs.ShortestChains.{IsShortestChain}

-- lists one after another
abbrev pub joined : {X : Type 0} → List (List X) → List X
joined [] = []
joined (l ∷ ls) = l ++ joined ls

-- the path to an item: a shortest one from the roots of this list, and of several the first; no list before leads there
pub record IsFirstPath {X : Type 0} (names : X → List X) (lists : List (List X)) (x : X) (list : ℕ) (path : List X) : Type 0 where
  pub roots : List X
  pub of_list : slice_get lists list ≡ Some roots
  pub shortest : IsShortestChain names roots x path
  pub none_before : (j : ℕ) (others : List X) → j < list → slice_get lists j ≡ Some others → ¬ (IsReachedFrom names others x)

-- no list leads there
abbrev pub IsUnreached : {X : Type 0} → (X → List X) → List (List X) → X → Type 0
IsUnreached {X} names lists x = (j : ℕ) (roots : List X) → slice_get lists j ≡ Some roots → ¬ (IsReachedFrom names roots x)

-- an item is on the path to one of these
pub record IsOnPathTo {X : Type 0} (names : X → List X) (lists : List (List X)) (targets : List X) (x : X) : Type 0 where
  pub target : X
  pub asked : Contains targets target
  pub list : ℕ
  pub path : List X
  pub is : IsFirstPath names lists target list path
  pub on : Contains path x

-- items, and for each the position of the one before it: the path to a position is that to the one before, and its item
pub data IsReadBack {X : Type 0} (items : List X) (from : List (Option ℕ)) : ℕ → List X → Type 0 where
  begins : (k : ℕ) (x : X) → slice_get items k ≡ Some x → slice_get from k ≡ Some None → IsReadBack items from k (x ∷ [])
  goes_on : (k j : ℕ) (x : X) (path : List X) → slice_get items k ≡ Some x → slice_get from k ≡ Some (Some j)
      → IsReadBack items from j path → IsReadBack items from k (path ++ x ∷ [])

-- the path to an item is read back from a position; there is none, where no list leads there
abbrev pub IsEndOf : {X : Type 0} → (X → List X) → List (List X) → List X → List (Option ℕ) → X → Option ℕ → Type 0
IsEndOf {X} names lists items from x end =
    MatchOption end (IsUnreached names lists x) (λ k. (list : ℕ) × (path : List X) × IsFirstPath names lists x list path × IsReadBack items from k path)

-- exactly the items on the paths to these targets, each once, in the order of first use, with the position of the one before it; and for
-- each target its position
pub record ArePaths {X : Type 0} (names : X → List X) (lists : List (List X)) (targets items : List X) (from ends : List (Option ℕ)) : Type 0 where
  pub even : length from ≡ length items
  pub each : length ends ≡ length targets
  pub once : AllPairs (λ x y. x ≢ y) items
  pub used : All (IsOnPathTo names lists targets) items
  -- so many items, the first, are those on the paths to the first n targets
  pub in_order : (n : ℕ) → (count : ℕ) × ((x : X) → Contains (take count items) x ↔ IsOnPathTo names lists (take n targets) x)
  pub earlier : (k j : ℕ) → slice_get from k ≡ Some (Some j) → j < k
  -- the one before an item names it
  pub named : (k j : ℕ) (x y : X) → slice_get from k ≡ Some (Some j) → slice_get items k ≡ Some x → slice_get items j ≡ Some y → Contains (names y) x
  pub paths : (n : ℕ) (x : X) → slice_get targets n ≡ Some x → (end : Option ℕ) × (slice_get ends n ≡ Some end) × IsEndOf names lists items from x end
