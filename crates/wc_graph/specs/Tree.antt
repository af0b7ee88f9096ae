-- Positions of items in a list.
use Rattle.std.specs.Prelude.{◌≡◌, ℕ, List, length, Contains, MatchOption, Option, Some}
use Rattle.std.specs.List.{slice_get}

-- for each of so many items its position in a list, where it is there
pub record ArePlaces (order : List ℕ) (size : ℕ) (places : List (Option ℕ)) : Type 0 where
  pub each : length places ≡ size
  pub at : (x : ℕ) (place : Option ℕ) → slice_get places x ≡ Some place → MatchOption place (¬ (Contains order x)) (λ k. slice_get order k ≡ Some x)
