-- The world of which all others are parts.
use Rattle.std.specs.Prelude.{◌≡◌, ◌≢◌, ◌<◌, ◌^◌, ℕ, List, All, Contains, Some, length, slice_get}
use Rattle.wc_adapters.specs.Entries.{Entries, entry_keys}
use Rattle.wc_json.specs.Document.{DocumentView}
use Rattle.wc_resolve.specs.Views.{KeyView, WorldView}

-- a key is one of these entries; each key of some entries is one of others

unfoldable pub IsKeyOf : Entries → KeyView → Type 0
IsKeyOf entries key = Contains (entry_keys entries) key

abbrev pub AreKeysIn : Entries → Entries → Type 0
AreKeysIn part whole = All (IsKeyOf whole) (entry_keys part)

-- a world is a part of another one, which imports what it imports, and exports what it exports
abbrev pub IsPart : WorldView → WorldView → Type 0
IsPart part whole = AreKeysIn part.imports whole.imports × AreKeysIn part.exports whole.exports

-- it is, and the other one is no part of it
abbrev pub IsProperPart : WorldView → WorldView → Type 0
IsProperPart part whole = IsPart part whole × ¬ IsPart whole part

-- the world at an index is a proper part of the one at another index
abbrev pub IsOtherPart : List WorldView → ℕ → ℕ → Type 0
IsOtherPart worlds other index =
    other ≢ index → (part whole : WorldView) → slice_get worlds other ≡ Some part → slice_get worlds index ≡ Some whole → IsProperPart part whole

-- the world at an index has all others for proper parts
abbrev pub HasAllParts : List WorldView → ℕ → Type 0
HasAllParts worlds index = (index < length worlds) × ((other : ℕ) → IsOtherPart worlds other index)

-- the same of a document's worlds, at an index of 32 bits
abbrev pub IsWholeWorld : DocumentView → ℕ → Type 0
IsWholeWorld d index = HasAllParts d.parts.worlds index × (index < 2 ^ 32)
