-- Things in a row, at each position an item of a graph or none.
use Rattle.std.specs.Prelude.{◌≡◌, ◌↔◌, ℕ, ◌<◌, List, AllPairs, Contains, map, Option, Some}
use Rattle.std.specs.declared.alloc.Global.{Global}
use Rattle.std.specs.declared.vec.Vec.{Vec}
use Rattle.std.specs.List.{slice_get}

-- at a position there is this item; all items are below a number
abbrev pub IsAt : List (Option ℕ) → ℕ → ℕ → Type 0
IsAt things position item = slice_get things position ≡ Some (Some item)

abbrev pub AreBelow : ℕ → List (Option ℕ) → Type 0
AreBelow size things = (position item : ℕ) → IsAt things position item → item < size

-- exactly these numbers, in ascending order
abbrev pub AreAscending : (ℕ → Type 0) → List ℕ → Type 0
AreAscending Is xs = AllPairs (λ a b. a < b) xs × ((x : ℕ) → Contains xs x ↔ Is x)

-- sets of numbers
abbrev pub items_of : Vec ℕ Global → List ℕ
items_of v = v.items

abbrev pub sets_view : List (Vec ℕ Global) → List (List ℕ)
sets_view sets = map items_of sets
