-- Positions that are marked, some of them so far.
use Rattle.std.specs.Prelude.{◌≡◌, ◌≤◌, ◌<◌, ◌↔◌, ℕ, Bool, true, List, length, Contains, Some}
use Rattle.std.specs.List.{slice_get}

-- exactly these positions are marked
pub record AreTargets (targets : List ℕ) (size : ℕ) (marks : List Bool) : Type 0 where
  pub sized : length marks ≡ size
  pub marked : (k : ℕ) → k < size → (slice_get marks k ≡ Some true) ↔ Contains targets k

-- a position is marked from which marks were taken to finders, one after another
pub data IsTaken (finder : List ℕ) (marks : List Bool) : ℕ → Type 0 where
  first : {index : ℕ} → slice_get marks index ≡ Some true → IsTaken finder marks index
  next : {other : ℕ} (index : ℕ) → IsTaken finder marks index → slice_get finder index ≡ Some other → IsTaken finder marks other

-- from each position at n or after it the mark was taken to its finder, and nothing else is marked
pub record AreTaken (finder : List ℕ) (before : List Bool) (n : ℕ) (marks : List Bool) : Type 0 where
  pub sized : length marks ≡ length before
  pub only : (index : ℕ) → slice_get marks index ≡ Some true → IsTaken finder before index
  pub kept : (index : ℕ) → slice_get before index ≡ Some true → slice_get marks index ≡ Some true
  pub taken : (index other : ℕ) → n ≤ index → slice_get marks index ≡ Some true → slice_get finder index ≡ Some other → slice_get marks other ≡ Some true
