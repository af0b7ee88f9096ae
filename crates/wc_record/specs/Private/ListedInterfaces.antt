-- Interfaces in a row, and where each of them is.
use Rattle.std.specs.Prelude.{◌≡◌, ◌==◌, ℕ, List, [], ◌∷◌, ◌++◌, cond, slice_get, unwrap_or}
use Rattle.std.specs.Map.{lookup}
use Rattle.std.specs.Option.{option_map_or}
use Rattle.std.specs.declared.alloc.Global.{Global}
use Rattle.std.specs.declared.vec.Vec.{Vec}
use Rattle.wc_resolve.specs.declared.ids.InterfaceId.{InterfaceId}
use Rattle.wc_selection.specs.KeyIndex.{positions_from}
use Rattle.wc_world.specs.Used.{same_interface}

-- the positions that are listed under an interface
abbrev pub listed : List (InterfaceId × Vec ℕ Global) → ℕ → List ℕ
listed entries i = option_map_or (λ (v : Vec ℕ Global). v.items) (lookup (same_interface (record { 0 = i })) entries) []

-- under each interface is listed what was, and after that this position under its own
abbrev pub ListsMore : List (InterfaceId × Vec ℕ Global) → List (InterfaceId × Vec ℕ Global) → ℕ → ℕ → Type 0
ListsMore old new i position = (j : ℕ) → listed new j ≡ listed old j ++ cond (i == j) (position ∷ []) []

-- under each interface are the positions at which it is
abbrev pub ArePositions : List ℕ → List (InterfaceId × Vec ℕ Global) → Type 0
ArePositions ids entries = (i : ℕ) → listed entries i ≡ positions_from 0 (λ j. j == i) ids

-- the interface at a position
abbrev pub id_at : List ℕ → ℕ → ℕ
id_at ids position = unwrap_or (slice_get ids position) 0
