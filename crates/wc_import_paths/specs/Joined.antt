-- Lists that stand one after another.
use Rattle.std.specs.Prelude.{◌≡◌, ℕ, List, length, Some}
use Rattle.std.specs.List.{flat_map, slice_get}

-- a list for each number below n, of which each is as `IsAt` says, joined
pub record AreJoined {A : Type 0} (n : ℕ) (IsAt : ℕ → List A → Type 0) (joined : List A) : Type 0 where
  pub parts : List (List A)
  pub each : length parts ≡ n
  pub are : (k : ℕ) (part : List A) → slice_get parts k ≡ Some part → IsAt k part
  pub is : joined ≡ flat_map (λ t. t) parts
