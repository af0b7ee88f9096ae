-- The lists of roots by numbers.
use Rattle.std.specs.Prelude.{◌≡◌, ℕ, ◌<◌, List, [], ◌∷◌, ◌++◌, All, Some, cond, filter, map, nat_lt}
use Rattle.std.specs.List.{slice_get}
use Rattle.wc_why.specs.Lists.{AreLists, begin_item, is_begin_of, part_roots}
use Rattle.wc_why.specs.Part.{BeginView, PartView}
use Rattle.wc_why.specs.Paths.{joined}
use Rattle.wc_why.specs.Private.Found.{IsFound}
use Rattle.wc_why.specs.Private.Numbers.{AreNumbers, place_of, total}
use Rattle.wc_why.specs.declared.lists.Lists.{Lists}
use Rattle.wc_why.specs.declared.numbers.Numbers.{Numbers}

-- an item of a part as a root, if it is there
abbrev pub root_at : ℕ → PartView → ℕ → List (ℕ × ℕ)
root_at p part n = cond (nat_lt n part.size) ((p, n) ∷ []) []

-- of some places where paths may begin those that are of a list
abbrev pub begins_of : ℕ → PartView → ℕ → List BeginView → List (ℕ × ℕ)
begins_of p part list bs = map (begin_item p) (filter (is_begin_of part.size list) bs)

-- numbers of some items
pub record AreNumbersOf (n : Numbers) (items : List (ℕ × ℕ)) (numbers : List ℕ) : Type 0 where
  pub are : map (place_of n) numbers ≡ items
  pub inside : All (λ x. x < total n) numbers

-- the numbers of some items were appended
pub record PutsNumbers (n : Numbers) (items : List (ℕ × ℕ)) (old new : List ℕ) : Type 0 where
  pub are : map (place_of n) new ≡ map (place_of n) old ++ items
  pub inside : All (λ x. x < total n) old → All (λ x. x < total n) new

-- the numbers of what is made of a part, whose position this is, were appended
abbrev pub PutsOf : Numbers → ℕ → (PartView → List (ℕ × ℕ)) → List ℕ → List ℕ → Type 0
PutsOf n p items old new = (parts : List PartView) (view : PartView) → AreNumbers parts n → slice_get parts p ≡ Some view → PutsNumbers n (items view) old new

-- those of its roots that are of a list
abbrev pub PutsRootsOf : Numbers → ℕ → List BeginView → ℕ → List ℕ → List ℕ → Type 0
PutsRootsOf n p begins list old new =
    (parts : List PartView) (view : PartView) → AreNumbers parts n → slice_get parts p ≡ Some view → view.begins ≡ begins
    → PutsNumbers n (part_roots list p view) old new

-- what the four lists reach, and the roots of all
pub record AreListsFound (parts : List PartView) (n : Numbers) (l : Lists) : Type 0 where
  pub lists : List (List (ℕ × ℕ))
  pub are : AreLists parts lists
  pub found : IsFound parts n lists l.found
  pub roots : AreNumbersOf n (joined lists) l.roots.items
