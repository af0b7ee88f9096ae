-- Positions that are kept by keys, and by keys and names.
use Rattle.std.specs.Prelude.{ℕ, Bool, ◌&&◌, List, Option, String, string_bytes, ◌≡◌, OnOk, Result}
use Rattle.std.specs.Map.{lookup}
use Rattle.std.specs.Option.{option_and_then}
use Rattle.std.specs.Str.{bytes_eq}
use Rattle.std.specs.declared.alloc.Global.{Global}
use Rattle.indexmap.specs.IndexMap.{get_by}
use Rattle.wc_resolve.specs.declared.worlds.WorldKey.{WorldKey}
use Rattle.wc_resolve.specs.Views.{KeyView, key_view}
use Rattle.wc_names.specs.Keys.{key_eq}
use Rattle.wc_validate.specs.declared.first_by_key.FirstByKey.{FirstByKey}
use Rattle.wc_validate.specs.FirstPositions.{kept_position}

-- what is kept under a key
abbrev pub under_key : {X : Type 0} → List (WorldKey × X) → KeyView → Option X
under_key entries key = lookup (λ k. key_eq key (key_view k)) entries

-- what is kept under a name
abbrev pub under_text : {X : Type 0} → List (String Global × X) → List ℕ → Option X
under_text entries name = lookup (λ k. bytes_eq name (string_bytes k)) entries

-- the position under a key and a name
abbrev pub position_called : FirstByKey → KeyView → List ℕ → Option ℕ
position_called first key name = option_and_then (get_by (λ k. bytes_eq name (string_bytes k))) (under_key first.keys.entries key)

-- whether a key and a name are those that are asked for
abbrev pub is_called : WorldKey → List ℕ → KeyView → List ℕ → Bool
is_called key name asked called = key_eq (key_view key) asked && bytes_eq called name

-- a position was kept under a name, under a key, or under both, if there was none
abbrev pub IsNameKept : {T F : Type 0} → List (String Global × ℕ) → List (String Global × ℕ) → List ℕ → ℕ → Result T F → Type 0
IsNameKept old new name position result =
    OnOk result ((called : List ℕ) → under_text new called ≡ kept_position (under_text old called) (bytes_eq called name) position)

abbrev pub IsKeyKept : {T F : Type 0} → List (WorldKey × ℕ) → List (WorldKey × ℕ) → WorldKey → ℕ → Result T F → Type 0
IsKeyKept old new key position result =
    OnOk result ((asked : KeyView) → under_key new asked ≡ kept_position (under_key old asked) (key_eq (key_view key) asked) position)

abbrev pub IsPositionKept : {T F : Type 0} → FirstByKey → FirstByKey → WorldKey → List ℕ → ℕ → Result T F → Type 0
IsPositionKept old new key name position result =
    OnOk result ((asked : KeyView) (called : List ℕ) → position_called new asked called ≡ kept_position (position_called old asked called) (is_called key name asked called) position)
