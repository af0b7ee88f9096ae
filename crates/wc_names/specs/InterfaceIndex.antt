-- What an index of the interfaces of a world has: under each key the first entry that has it.
use Rattle.std.specs.Prelude.{◌≡◌, List, [], ◌∷◌, ◌++◌, Bool, cond, is_some, Option, MatchOption, ◌&&◌, ℕ, Some, String, string_bytes, nat_eq}
use Rattle.std.specs.Map.{lookup}
use Rattle.std.specs.Option.{option_map, option_and_then}
use Rattle.wc_names.specs.Finds.{Finds}
use Rattle.wc_names.specs.First.{FirstOf}
use Rattle.std.specs.Str.{bytes_eq}
use Rattle.std.specs.declared.alloc.Global.{Global}
use Rattle.wc_resolve.specs.declared.ids.InterfaceId.{InterfaceId}
use Rattle.wc_resolve.specs.Names.{track}
use Rattle.wc_resolve.specs.Resolve.{VersionView, qualified_name}
use Rattle.wc_resolve.specs.Views.{ItemView, KeyView, PackageNameView}
use Rattle.wc_resolve.specs.Kinds.{ResolveView}
use Rattle.wc_adapters.specs.Entries.{Entries}
use Rattle.wc_names.specs.declared.interface_index.TrackName.{TrackName}
use Rattle.wc_names.specs.declared.interface_index.IdIndex.{IdIndex}
use Rattle.wc_names.specs.declared.interface_index.InterfaceIndex.{InterfaceIndex}
use Rattle.wc_names.specs.declared.interface_index.InterfaceIndex.TheVariants.{CanonicalIds, FullIds}
use Rattle.wc_names.specs.Views.{keyed_view}
use Rattle.wc_names.specs.Interfaces.{FoundInterface, InterfaceTexts, IsCanonicalEntry, IsCloneOf, IsEntryOf, canonical_ids, full_ids, under_own_key}

-- the key that an entry has, and what it gives; an entry has one key at most
abbrev pub IsKeyOf : {T E O : Type 0} → (T → E → O → Type 0) → E → Option (T × O) → Type 0
IsKeyOf {T} {E} {O} Has e found = MatchOption found ((t : T) (o : O) → ¬ Has t e o) (λ (f : T × O). Has f.0 e f.1 × ((t : T) (o : O) → Has t e o → t ≡ f.0))

-- under each key the first of the entries that have it
abbrev pub KeepsFirst : {T E O K V : Type 0} → (T → E → O → Type 0) → (T → K → Bool) → (V → O) → List E → List (K × V) → Type 0
KeepsFirst {T} Has test view all kept = (t : T) → Finds (option_map view (lookup (test t) kept)) (FirstOf (Has t) all)

-- what is kept, with one value more if nothing was kept under its key
abbrev pub with_first : {K V : Type 0} → (K → K → Bool) → List (K × V) → K → V → List (K × V)
with_first eq kept k v = cond (is_some (lookup (eq k) kept)) kept (kept ++ (k, v) ∷ [])

-- the interfaces of a world's imports or exports, and how they are found by texts
pub record InterfaceNamesView : Type 0 where
  pub texts : InterfaceTexts
  pub resolve : ResolveView
  pub entries : Entries

abbrev pub interface_names_view : InterfaceTexts → ResolveView → Entries → InterfaceNamesView
interface_names_view texts r entries = record { texts = texts; resolve = r; entries = entries }

-- what the ids of interfaces on one track share: namespace, package, interface and track
abbrev pub TrackNameView : Type 0
TrackNameView = List ℕ × List ℕ × List ℕ × List ℕ

abbrev pub track_name_view : TrackName → TrackNameView
track_name_view t = (string_bytes t.namespace, string_bytes t.package_name, string_bytes t.interface, string_bytes t.track)

-- the track name of an interface of this name in a package, if that has a version
abbrev pub track_name_in : PackageNameView → List ℕ → Option TrackNameView
track_name_in p name = option_map (λ (v : VersionView). (p.namespace, p.name, name, track v)) p.version

-- the track name of the interface at an index
abbrev pub track_name_of : ResolveView → ℕ → Option TrackNameView
track_name_of r i = option_and_then (λ (m : PackageNameView × List ℕ). track_name_in m.0 m.1) (qualified_name r i)

-- an entry whose key is an interface on a track
abbrev pub IsTrackEntry : ResolveView → TrackNameView → KeyView × ItemView → FoundInterface → Type 0
IsTrackEntry r t e found = IsEntryOf (λ (i : ℕ). track_name_of r i ≡ Some t) e found

-- an entry whose key is a clone of an interface
abbrev pub IsCloneEntry : ResolveView → ℕ → KeyView × ItemView → FoundInterface → Type 0
IsCloneEntry r source e found = IsEntryOf (IsCloneOf r source) e found

-- whether a key is this text, this index or this name
abbrev pub is_text : List ℕ → String Global → Bool
is_text text k = bytes_eq text (string_bytes k)

abbrev pub is_index : ℕ → InterfaceId → Bool
is_index i k = nat_eq i k.0

abbrev pub is_track_name : TrackNameView → TrackName → Bool
is_track_name t k =
    bytes_eq t.0 (string_bytes k.namespace) && (bytes_eq t.1 (string_bytes k.package_name) &&
    (bytes_eq t.2 (string_bytes k.interface) && bytes_eq t.3 (string_bytes k.track)))

-- clones are kept by the interfaces that they are clones of
abbrev pub KeepsClones : ResolveView → Entries → List (InterfaceId × InterfaceId) → Type 0
KeepsClones r entries kept = KeepsFirst (IsCloneEntry r) is_index under_own_key entries kept

-- interfaces are kept by their tracks
abbrev pub KeepsTracks : ResolveView → Entries → List (TrackName × InterfaceId) → Type 0
KeepsTracks r entries kept = KeepsFirst (IsTrackEntry r) is_track_name under_own_key entries kept

-- what is looked up by ids: clones, and interfaces on tracks
pub record IsIdIndex (r : ResolveView) (entries : Entries) (index : IdIndex) : Type 0 where
  pub clones : KeepsClones r entries index.clones.entries
  pub tracks : KeepsTracks r entries index.tracks.entries

abbrev pub index_texts : InterfaceIndex → InterfaceTexts
index_texts (CanonicalIds first) = canonical_ids
index_texts (FullIds index) = full_ids

-- the first interfaces are kept under what they are found by
abbrev pub IsInterfaceIndex : ResolveView → Entries → InterfaceIndex → Type 0
IsInterfaceIndex r entries (CanonicalIds first) = KeepsFirst (IsCanonicalEntry r) is_text keyed_view entries first.entries
IsInterfaceIndex r entries (FullIds index) = IsIdIndex r entries index
