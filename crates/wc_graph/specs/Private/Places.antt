-- Positions of items, and marks of items by marks of positions.
use Rattle.std.specs.Prelude.{ℕ, Bool, true, false, ◌||◌, List, Option, Some, None}
use Rattle.std.specs.List.{slice_get}
use Rattle.std.specs.Option.{option_map_or}
use Rattle.wc_graph.specs.ChainMarks.{is_set}

abbrev pub entry_by : Option (Option ℕ) → Option ℕ
entry_by None = None
entry_by (Some entry) = entry

-- the position of an item, if it was found
abbrev pub place_at : List (Option ℕ) → ℕ → Option ℕ
place_at places x = entry_by (slice_get places x)

-- whether an item was not found
abbrev pub is_missing : Option ℕ → Bool
is_missing None = true
is_missing (Some k) = false

abbrev pub is_missing_at : List (Option ℕ) → ℕ → Bool
is_missing_at places x = is_missing (place_at places x)

-- the mark of an item, by those of positions
abbrev pub mark_by : List Bool → Option ℕ → Bool
mark_by marks place = option_map_or (is_set marks) place false

-- whether a mark is set in one of two lists
abbrev pub is_set_in : List Bool → List Bool → ℕ → Bool
is_set_in first second n = is_set first n || is_set second n
