-- Live types: the types that an item of a world needs, each after the types that it refers to.
use Rattle.std.specs.Prelude.{◌≡◌, ℕ, List, [], ◌∷◌, ◌++◌, ◌==◌, if◌then◌else◌, fold, Contains}
use Rattle.std.specs.List.{flat_map, list_any}
use Rattle.std.specs.Option.{option_map_or}
use Rattle.wc_resolve.specs.Views.{TypeView}
use Rattle.wc_resolve.specs.Kinds.{ResolveView, children, referenced_indices}
use Rattle.wc_resolve.specs.TypeRules.{Rule, value_by_rule}

-- the listing of a type: the listings of the types that it refers to, in order, and after them the type itself
abbrev pub listing_rule : Rule (List ℕ)
listing_rule listed x kind = flat_map listed (option_map_or referenced_indices kind []) ++ x ∷ []

abbrev pub listing_of : List TypeView → ℕ → List ℕ
listing_of types = value_by_rule listing_rule [] types

-- the listings of some types, one after another
abbrev pub listing_from : List TypeView → List ℕ → List ℕ
listing_from types roots = flat_map (listing_of types) roots

-- appended, unless it is there
abbrev pub with_live : List ℕ → ℕ → List ℕ
with_live live x = if list_any (λ y. x == y) live then live else live ++ x ∷ []

-- a listing appended to what is there, without repeats
abbrev pub list_union : List ℕ → List ℕ → List ℕ
list_union live listing = fold with_live live listing

-- the types that each type refers to are there too
abbrev pub IsComplete : List TypeView → List ℕ → Type 0
IsComplete types live = (x c : ℕ) → Contains live x → Contains (children types x) c → Contains live c

-- a listing was added, without repeats
abbrev pub AddsAll : List TypeView → List ℕ → List ℕ → List ℕ → Type 0
AddsAll types old new listing = IsComplete types old → IsComplete types new × (new ≡ list_union old listing)

-- a beginning of a listing was added, without repeats
abbrev pub AddsSome : List TypeView → List ℕ → List ℕ → List ℕ → Type 0
AddsSome types old new listing = IsComplete types old → IsComplete types new × (rest : List ℕ) × (list_union old listing ≡ new ++ rest)

-- what was there is at the front, as it was
abbrev pub Keeps : List ℕ → List ℕ → Type 0
Keeps old new = (added : List ℕ) × (new ≡ old ++ added)

-- the listings of these types were added
abbrev pub AddsListings : ResolveView → List ℕ → List ℕ → List ℕ → Type 0
AddsListings r old new roots = AddsAll r.types old new (listing_from r.types roots)

-- a beginning of them was
abbrev pub AddsPartly : ResolveView → List ℕ → List ℕ → List ℕ → Type 0
AddsPartly r old new roots = AddsSome r.types old new (listing_from r.types roots)
