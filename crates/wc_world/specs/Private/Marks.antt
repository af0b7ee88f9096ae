-- For which exported interfaces types are settled: nothing is left to add of what they lead to.
use Rattle.std.specs.Prelude.{◌≡◌, ◌==◌, ◌||◌, ℕ, zero, suc, List, [], ◌∷◌, ◌++◌, Bool, true, false, Option, Some, None, filter, length, slice_index_or}
use Rattle.wc_resolve.specs.declared.ids.InterfaceId.{InterfaceId}
use Rattle.wc_world.specs.Live.{is_used}
use Rattle.wc_world.specs.Used.{UsedView}

-- an interface is this one, or one that it uses; there is none within no interface
abbrev pub is_within : UsedView → Option InterfaceId → ℕ → Bool
is_within sets (Some i) k = (k == i.0) || is_used sets i.0 k
is_within sets None k = false

-- a type of this mark is settled for an interface that has such interfaces within: for all, or for one of these
abbrev pub holds : (ℕ → Bool) → Option (Option InterfaceId) → Bool
holds within (Some (Some k)) = within k.0
holds within (Some None) = true
holds within None = false

-- the mark of a type
abbrev pub mark_of : List (Option (Option InterfaceId)) → ℕ → Option (Option InterfaceId)
mark_of marks t = slice_index_or marks t None

-- the numbers below one
abbrev pub numbers_below : ℕ → List ℕ
numbers_below zero = []
numbers_below (suc n) = numbers_below n ++ n ∷ []

-- the types that are live, and those that are settled for this interface, or for all
abbrev pub known_to : UsedView → List ℕ → List (Option (Option InterfaceId)) → Option InterfaceId → List ℕ
known_to sets live marks reach = live ++ filter (λ t. holds (is_within sets reach) (mark_of marks t)) (numbers_below (length marks))

-- an interface uses what those that it uses do
abbrev pub UseFurther : UsedView → Type 0
UseFurther sets = (i k j : ℕ) → is_used sets i k ≡ true → is_used sets k j ≡ true → is_used sets i j ≡ true
