-- How objects are read as maps, in the order of their members. The key of an entry is that of a name and the value. A key that comes again keeps its position and takes its
-- last value, as in an `IndexMap`; a text whose objects repeat a member is refused before.
use Rattle.std.specs.Prelude.{ℕ, List, [], Bool, Ok}
use Rattle.std.specs.Str.{bytes_eq}
use Rattle.indexmap.specs.IndexMap.{insert_entry}
use Rattle.json.specs.Json.{Json, Members, no_members, member}
use Rattle.wc_json.specs.Fault.{Reading, ◌>>=◌}
use Rattle.wc_json.specs.Members.{members}
use Rattle.wc_json.specs.Paths.{at_step, key_step}

module _ {A L : Type 0} (same : L → L → Bool) (key : List ℕ → A → L) (read : Json → Reading A) where
  -- the entries before, and those of the members
  abbrev pub entries_after : List (L × A) → Members → Reading (List (L × A))
  entries_after before no_members = Ok before
  entries_after before (member name j ms) = do
    a ← at_step (key_step name) (read j)
    entries_after (insert_entry same before (key name a) a) ms

  abbrev pub entries : Json → Reading (List (L × A))
  entries j = members j >>= entries_after []

-- a map from names
abbrev pub name_map : {A : Type 0} → (Json → Reading A) → Json → Reading (List (List ℕ × A))
name_map read = entries bytes_eq (λ name a. name) read
