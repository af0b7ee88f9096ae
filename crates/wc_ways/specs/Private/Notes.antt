-- What is noted of each interface of a component, by adapters and by types.
use Rattle.std.specs.Prelude.{◌≡◌, ℕ, List, Option}
use Rattle.std.specs.Map.{keys_of, lookup}
use Rattle.std.specs.Option.{option_map}
use Rattle.std.specs.Str.{bytes_eq}
use Rattle.wc_world.specs.Views.{ComponentWorldView}
use Rattle.wc_ways.specs.Imports.{AreInterfacesIn, AreParts, typed_in}
use Rattle.wc_summary.specs.Summary.{AdapterPartView}
use Rattle.wc_ways.specs.Types.{user_in}
use Rattle.wc_summary.specs.Entries.{EntriesView, Lists, parts_of, with_adapters, with_types}

-- what adapters import is noted
pub record NotesAdapters (w : ComponentWorldView) (old new : EntriesView) : Type 0 where
  pub found : List (List ℕ)
  pub are_found : AreInterfacesIn w w.adapters found
  pub listed : Lists old new found
  pub each : (interface : List ℕ) → (parts : List AdapterPartView) × AreParts w interface w.adapters parts × (parts_of new interface ≡ with_adapters parts (parts_of old interface))

-- interfaces are noted that are imported for their types, with who uses them
pub record NotesTyped (user : ℕ → Option (List ℕ)) (typed : List (List ℕ × ℕ)) (old new : EntriesView) : Type 0 where
  pub listed : Lists old new (keys_of typed)
  pub each : (interface : List ℕ) → parts_of new interface ≡ with_types (option_map user (lookup (bytes_eq interface) typed)) (parts_of old interface)

abbrev pub NotesTypes : ComponentWorldView → EntriesView → EntriesView → Type 0
NotesTypes w old new = NotesTyped (user_in w) (typed_in w) old new
