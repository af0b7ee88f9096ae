-- The futures and streams that types contain.
use Rattle.std.specs.Prelude.{◌≡◌, ℕ, ◌<◌, ◌≤◌, ◌+◌, ◌-◌, ◌^◌, min, nat_eq, List, [], ◌∷◌, ◌++◌, Bool, true, false, if◌then◌else◌, length, slice_index_or}
use Rattle.std.specs.Prelude.{Contains, Option, Some, None}
use Rattle.std.specs.List.{filter_map, flat_map, slice_get, sum_by}
use Rattle.std.specs.Option.{option_map_or}
use Rattle.wc_resolve.specs.declared.futures.FuturesEntry.{FuturesEntry}
use Rattle.wc_resolve.specs.declared.ids.TypeId.{TypeId}
use Rattle.wc_resolve.specs.declared.types.WitType.{WitType}
use Rattle.wc_resolve.specs.Live.{listing_from, listing_of}
use Rattle.wc_resolve.specs.Views.{KindView, alias_kind, future_kind, stream_kind, FunctionView, TypeView}
use Rattle.wc_resolve.specs.Kinds.{ResolveView, contained_types, kind_at, type_index}
use Rattle.wc_resolve.specs.TypeRules.{Rule, value_by_rule}
use Rattle.wc_resolve.specs.Roots.{indices, passed_roots}

-- the types that a type contains by value, or an alias's target
abbrev pub carried_types : KindView → List WitType
carried_types (alias_kind t) = t ∷ []
carried_types k = contained_types k

abbrev pub carried_indices : KindView → List ℕ
carried_indices k = filter_map type_index (carried_types k)

abbrev pub is_carrier : KindView → Bool
is_carrier (future_kind t) = true
is_carrier (stream_kind t) = true
is_carrier k = false

-- the futures and streams of a type: those of the types that it contains by value, in order, and after them the type
-- itself, where it is a future or a stream
abbrev pub futures_rule : Rule (List ℕ)
futures_rule listed x kind =
    flat_map listed (option_map_or carried_indices kind []) ++ (if option_map_or is_carrier kind false then x ∷ [] else [])

abbrev pub futures_of : List TypeView → ℕ → List ℕ
futures_of types = value_by_rule futures_rule [] types

-- the futures and streams of some types, one after another
abbrev pub futures_from : List TypeView → List ℕ → List ℕ
futures_from types roots = flat_map (futures_of types) roots

-- the one at index `n` among those of a type is the one at index `left` of this part of it, below which fewer types are
pub record IsPartWith (types : List TypeView) (x n part left : ℕ) : Type 0 where
  pub within : part < length types
  pub shorter : length (listing_of types part) < length (listing_of types x)
  pub low : left ≤ n
  pub more : left < length (futures_of types part)
  pub same : slice_get (futures_of types x) n ≡ slice_get (futures_of types part) left

-- the futures and streams of a function's parameters and result
abbrev pub function_futures : ResolveView → FunctionView → List ℕ
function_futures r f = futures_from r.types (passed_roots f)

-- what is kept of a type's futures and streams: the types whose futures and streams these are, one type's after
-- another's; how many there are up to each of these types and with it; whether the type itself comes after them; and how
-- many they are; counted up to a limit
pub record EntryView : Type 0 where
  pub parts : List TypeId
  pub ends : List ℕ
  pub is_carrier : Bool
  pub count : ℕ

abbrev pub entry_view : FuturesEntry → EntryView
entry_view e = record { parts = e.parts.items; ends = e.ends.items; is_carrier = e.is_carrier; count = e.count }

-- what is kept of a type that has no futures and streams
abbrev pub no_futures : EntryView
no_futures = record { parts = []; ends = []; is_carrier = false; count = 0 }

-- the entry of the type at an index
abbrev pub entry_at : List EntryView → ℕ → EntryView
entry_at entries x = slice_index_or entries x no_futures

-- the greatest count
abbrev pub max_count : ℕ
max_count = 2 ^ 64 - 1

-- how many futures and streams there are up to each of some types and with it, after so many before them all, counted up
-- to the limit
abbrev pub ends_of : List TypeView → ℕ → List TypeId → List ℕ
ends_of types before [] = []
ends_of types before (id ∷ ids) = min (before + length (futures_of types id.0)) max_count ∷ ends_of types (before + length (futures_of types id.0)) ids

-- the type itself, where it is a future or a stream
abbrev pub itself : Bool → ℕ → List ℕ
itself carrier x = if carrier then x ∷ [] else []

-- what an entry of the type at an index says; its parts are in range, and have fewer types below them
pub record IsFuturesEntry (types : List TypeView) (x : ℕ) (entry : EntryView) : Type 0 where
  pub made : futures_of types x ≡ futures_from types (indices entry.parts) ++ itself entry.is_carrier x
  pub ended : entry.ends ≡ ends_of types 0 entry.parts
  pub counted : entry.count ≡ min (length (futures_of types x)) max_count
  pub within : (p : ℕ) → Contains (indices entry.parts) p → p < length types
  pub shorter : length (listing_from types (indices entry.parts)) < length (listing_of types x)

-- an entry for each type
pub record AreFuturesEntries (types : List TypeView) (entries : List EntryView) : Type 0 where
  pub same_length : length entries ≡ length types
  pub each : (x : ℕ) → x < length types → IsFuturesEntry types x (entry_at entries x)

-- the type whose futures and streams are those of a type, where this has some: its only part, if it is no future or
-- stream itself
abbrev pub only_part : List TypeId → Bool → TypeId → TypeId
only_part parts true id = id
only_part (part ∷ []) false id = part
only_part parts false id = id

abbrev pub part_for : List EntryView → TypeId → Option TypeId
part_for entries id =
    if nat_eq (entry_at entries id.0).count 0 then None else Some (only_part (entry_at entries id.0).parts (entry_at entries id.0).is_carrier id)

-- how many futures and streams there are in types, by their entries, counted up to the limit
abbrev pub count_of : List EntryView → List TypeId → ℕ
count_of entries ids = min (sum_by (λ (id : TypeId). (entry_at entries id.0).count) ids) max_count

-- how many there are up to each of the types that have some, and with it, after so many before them all
abbrev pub ends_from : List EntryView → ℕ → List TypeId → List ℕ
ends_from entries before [] = []
ends_from entries before (id ∷ ids) =
    if nat_eq (entry_at entries id.0).count 0 then ends_from entries before ids else
    (min (before + (entry_at entries id.0).count) max_count ∷ ends_from entries (min (before + (entry_at entries id.0).count) max_count) ids)

abbrev pub with_itself : Bool → ℕ → ℕ
with_itself carrier count = min (count + (if carrier then 1 else 0)) max_count

-- the entry of a type that contains these types by value, or is an alias of one
abbrev pub entry_from : List EntryView → List TypeId → Bool → EntryView
entry_from entries ids carrier = record {
  parts = filter_map (part_for entries) ids;
  ends = ends_from entries 0 ids;
  is_carrier = carrier;
  count = with_itself carrier (count_of entries ids);
}

-- the entry of the type at an index, by those of the types that it contains by value
abbrev pub IsEntryFor : List EntryView → List TypeView → ℕ → EntryView → Type 0
IsEntryFor entries types x entry =
    (ids : List TypeId) × (indices ids ≡ option_map_or carried_indices (kind_at types x) [])
    × (entry ≡ entry_from entries ids (option_map_or is_carrier (kind_at types x) false))
