-- What names are taken, and with which numbers: for each name of a list 0 where no import has it, else a number from 2 on,
-- with each smaller one of which from 2 on the name is that of an import.
use Rattle.std.specs.Prelude.{◌≡◌, ◌≢◌, ℕ, ◌+◌, ◌^◌, ◌<◌, ◌≤◌, ◌⊎◌, Bool, true, false, List, [], ◌∷◌, ◌++◌, length, set, Option, Some, None, slice_get}
use Rattle.std.specs.List.{Contains}
use Rattle.wc_dedupe.specs.Renaming.{ImportName, RenameView, name_with_number}

-- this name with a number
abbrev pub numbered : ImportName → ℕ → ImportName
numbered x n = record { module_name = x.module_name; name = name_with_number x.name n }

-- no name of a list is one with a number
abbrev pub LacksNumbered : List ImportName → Type 0
LacksNumbered known = (x : ImportName) (n : ℕ) → ¬ Contains known (numbered x n)

-- the number of a name, where these names are given
abbrev pub IsNumberOf : List ImportName → ImportName → ℕ → Type 0
IsNumberOf given x v =
    ((v ≡ 0) × (¬ Contains given x))
    ⊎ ((2 ≤ v) × (v < 2 ^ 64) × Contains given x × ((k : ℕ) → 2 ≤ k → k < v → Contains given (numbered x k)))

-- a name of the list with a number below its own
pub record IsMade (known : List ImportName) (numbers : List ℕ) (x : ImportName) : Type 0 where
  pub position : ℕ
  pub original : ImportName
  pub next : ℕ
  pub number : ℕ
  pub at : slice_get known position ≡ Some original
  pub next_is : slice_get numbers position ≡ Some next
  pub below : number < next
  pub small : next < 2 ^ 64
  pub is : x ≡ numbered original number

-- the numbers of names, where these names are given: all are known, or made of known ones
pub record AreNumbers (known given : List ImportName) (numbers : List ℕ) : Type 0 where
  pub each : (p : ℕ) (x : ImportName) → slice_get known p ≡ Some x → (v : ℕ) × (slice_get numbers p ≡ Some v) × IsNumberOf given x v
  pub made : (x : ImportName) → Contains given x → Contains known x ⊎ IsMade known numbers x

-- a known name whose number says that an import has it
pub record IsTaken (known : List ImportName) (numbers : List ℕ) (x : ImportName) : Type 0 where
  pub position : ℕ
  pub number : ℕ
  pub at : slice_get known position ≡ Some x
  pub number_is : slice_get numbers position ≡ Some number
  pub some : number ≢ 0

-- a name that is not known, or that is free and is taken now
abbrev pub TakesFree : List ImportName → List ℕ → List ℕ → ImportName → Type 0
TakesFree known old new x =
    ((¬ Contains known x) × (new ≡ old))
    ⊎ ((p : ℕ) × (slice_get known p ≡ Some x) × (slice_get old p ≡ Some 0) × (new ≡ set old p 2))

abbrev pub Takes : List ImportName → List ℕ → List ℕ → ImportName → Bool → Type 0
Takes known old new x false = IsTaken known old x × (new ≡ old)
Takes known old new x true = TakesFree known old new x

-- the known name at a position is given with the least number from its own on with which it is not taken
pub record GivesNumber (known : List ImportName) (old new : List ℕ) (position : ℕ) (name : List ℕ) : Type 0 where
  pub original : ImportName
  pub from : ℕ
  pub number : ℕ
  pub between : List ℕ
  pub at : slice_get known position ≡ Some original
  pub from_is : slice_get old position ≡ Some from
  pub not_below : from ≤ number
  pub small : number + 1 < 2 ^ 64
  pub spelled : name ≡ name_with_number original.name number
  pub tried : (k : ℕ) → from ≤ k → k < number → IsTaken known old (numbered original k)
  pub takes : TakesFree known old between (numbered original number)
  pub stored : new ≡ set between position (number + 1)

-- the name at a position is given to one more import: itself where it is free, else with a number
abbrev pub Gives : List ImportName → List ℕ → List ℕ → ℕ → Option (List ℕ) → Type 0
Gives known old new position None = (slice_get old position ≡ Some 0) × (new ≡ set old position 2)
Gives known old new position (Some name) = (slice_get old position ≢ Some 0) × GivesNumber known old new position name

-- the name that an import of this name gets
abbrev pub given_name : ImportName → Option (List ℕ) → ImportName
given_name x None = x
given_name x (Some name) = record { module_name = x.module_name; name = name }

-- the rename of an import is appended, where it has a new name, and this is its index
abbrev pub PushesRename : List RenameView → List RenameView → ImportName → Option (List ℕ) → Option ℕ → Type 0
PushesRename old new x None index = (index ≡ None) × (new ≡ old)
PushesRename old new x (Some name) index = (index ≡ Some (length old)) × (new ≡ old ++ (record { module_name = x.module_name; original = x.name; name = name }) ∷ [])
