-- JSON values by their parts.
use Rattle.std.specs.Prelude.{ℕ, List, [], ◌∷◌, Option, Some, None, decimal}
use Rattle.json.specs.Json.{Json, null, number, array, object, Items, no_items, item, Members, no_members, member}

-- a number, by its decimal digits
abbrev pub number_json : ℕ → Json
number_json n = number (decimal n)

-- a value, or null for none
abbrev pub nullable_json : {A : Type 0} → (A → Json) → Option A → Json
nullable_json json None = null
nullable_json json (Some a) = json a

-- a list

abbrev pub items_of : List Json → Items
items_of [] = no_items
items_of (j ∷ js) = item j (items_of js)

unfoldable pub array_of : List Json → Json
array_of js = array (items_of js)

-- an object, by its members: their names and values

abbrev pub Field : Type 0
Field = List ℕ × Json

abbrev pub members_of : List Field → Members
members_of [] = no_members
members_of (f ∷ fs) = member f.0 f.1 (members_of fs)

unfoldable pub object_of : List Field → Json
object_of fs = object (members_of fs)
