-- What the main module wants of an adapter.
use Rattle.std.specs.Prelude.{ℕ, Bool, List, is_some}
use Rattle.std.specs.Map.{lookup}
use Rattle.std.specs.Str.{bytes_eq}
use Rattle.wc_read.specs.Types.{FuncTypeValue}

-- functions that the main module imports from an adapter, with their types
abbrev pub WantedFunctions : Type 0
WantedFunctions = List (List ℕ × FuncTypeValue)

-- an export is one of these
abbrev pub is_wanted : WantedFunctions → List ℕ → Bool
is_wanted wanted export = is_some (lookup (bytes_eq export) wanted)
