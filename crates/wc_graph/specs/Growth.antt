-- A search: a set, and the list of its elements, in the order in which they were found.
use Rattle.std.specs.Prelude.{◌≡◌, ◌≢◌, Bool, true, ℕ, List, ◌++◌, IsTrue, Contains, AllPairs, ◌⊎◌, ◌<◌, ◌≤◌, length, slice_index_or}
use Rattle.wc_graph.specs.ShortestChains.{IsBefore}

-- one thing is put in, and all else stays
pub record Inserts {X : Type 0} (old new : X → Bool) (x : X) : Type 0 where
  pub present : new x ≡ true
  pub others : (y : X) → y ≢ x → new y ≡ old y

-- the set and the list have the same things, the list no thing twice
pub record IsTied {X : Type 0} (has : X → Bool) (found : List X) : Type 0 where
  pub is_listed : (x : X) → IsTrue (has x) → Contains found x
  pub is_in_set : (x : X) → Contains found x → IsTrue (has x)
  pub distinct : AllPairs (λ x y. x ≢ y) found

-- some things were put in, after what was there
pub record HasGrown {X : Type 0} (found : List X) (has' : X → Bool) (found' : List X) (xs : List X) : Type 0 where
  pub tied : IsTied has' found'
  pub after : (more : List X) × (found' ≡ found ++ more)
  pub all : (x : X) → Contains xs x → Contains found' x
  pub only : (x : X) → Contains found' x → Contains found x ⊎ Contains xs x
  pub ordered : (i j : ℕ) (d : X) → length found ≤ i → i < j → j < length found' → IsBefore xs (slice_index_or found' i d) (slice_index_or found' j d)

abbrev pub IsGrown : {X : Type 0} → (X → Bool) → List X → (X → Bool) → List X → List X → Type 0
IsGrown has found has' found' xs = IsTied has found → HasGrown found has' found' xs
