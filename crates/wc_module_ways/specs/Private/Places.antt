-- The exports of modules that serve functions, by the modules' names and their own, as the code finds them.
use Rattle.std.specs.Prelude.{◌≡◌, ◌⊎◌, ◌<◌, ℕ, ◌+◌, Bool, true, ◌&&◌, List, cond, length, Option, Some, None}
use Rattle.std.specs.Borrow.{Bor}
use Rattle.std.specs.List.{slice_get}
use Rattle.std.specs.Map.{lookup}
use Rattle.std.specs.Option.{option_and_then, option_map, option_map_or}
use Rattle.std.specs.Str.{bytes_eq}
use Rattle.wc_read.specs.Exports.{ExportValue}
use Rattle.wc_read.specs.Imports.{ImportValue}
use Rattle.wc_paths.specs.Items.{CountsValue, has_item}
use Rattle.wc_paths.specs.Numbers.{number_of}
use Rattle.wc_paths.specs.Roots.{export_item}
use Rattle.wc_paths.specs.declared.items.PathItem.{PathItem}
use Rattle.wc_why.specs.Part.{LinkView}
use Rattle.wc_component_file.specs.Renamed.{original_import_name}
use Rattle.wc_module_ways.specs.Names.{is_function}
use Rattle.wc_module_ways.specs.Servers.{ServerView}

-- a module and a name, as a key; and the place of an item: the position of its part, and its number there
abbrev pub Key : Type 0
Key = Bor (List ℕ) × Bor (List ℕ)

abbrev pub is_key : Key → Key → Bool
is_key q k = bytes_eq q.0.now k.0.now && bytes_eq q.1.now k.1.now

abbrev pub Places : Type 0
Places = List (Key × (ℕ × ℕ))

-- an export that a module serves has these names, and its item is there
abbrev pub IsNamedSo : ServerView → ExportValue → List ℕ → List ℕ → Type 0
IsNamedSo s e from name = (s.name ≡ from) × (e.name ≡ name) × (has_item s.counts (export_item e) ≡ true)

-- the place of such an export
pub record IsPlace (servers : List ServerView) (from name : List ℕ) (place : ℕ × ℕ) : Type 0 where
  pub index : ℕ
  pub server : ServerView
  pub is_server : slice_get servers index ≡ Some server
  pub position : ℕ
  pub export : ExportValue
  pub is_export : slice_get server.exports position ≡ Some export
  pub named : IsNamedSo server export from name
  pub part : place.0 ≡ index + 1
  pub item : place.1 ≡ number_of server.counts (export_item export)

-- the exports of modules before the one at an index, and of it those before the one at a position
abbrev pub IsPassed : ℕ → ℕ → ℕ → ℕ → Type 0
IsPassed n m index position = (index < n) ⊎ ((index ≡ n) × (position < m))

pub record HasPlacesTo (servers : List ServerView) (n m : ℕ) (entries : Places) : Type 0 where
  pub there : (q : Key) (place : ℕ × ℕ) → lookup (is_key q) entries ≡ Some place → IsPlace servers q.0.now q.1.now place
  pub missing : (q : Key) → lookup (is_key q) entries ≡ None → (index position : ℕ) (s : ServerView) (e : ExportValue) → IsPassed n m index position
      → slice_get servers index ≡ Some s → slice_get s.exports position ≡ Some e → ¬ (IsNamedSo s e q.0.now q.1.now)

abbrev pub ArePlaces : List ServerView → Places → Type 0
ArePlaces servers entries = HasPlacesTo servers (length servers) 0 entries

-- those of a module were put
abbrev pub PutsServer : ServerView → ℕ → Places → Places → Type 0
PutsServer s n old new =
    (servers : List ServerView) → slice_get servers n ≡ Some s → HasPlacesTo servers n 0 old → HasPlacesTo servers (n + 1) 0 new

-- one was put, if its item is there
abbrev pub PutsPlace : Key → ℕ → PathItem → CountsValue → Places → Places → Type 0
PutsPlace key index x c old new =
    (q : Key) → lookup (is_key q) new ≡ cond (has_item c x && is_key key q) (Some (index + 1, number_of c x)) (lookup (is_key q) old)

-- the place of an export of a module; where none has this name, that of the name before its version; with the name that was found
abbrev pub place_of : Places → List ℕ → List ℕ → Option (ℕ × ℕ)
place_of places from name = lookup (λ (k : Key). bytes_eq from k.0.now && bytes_eq name k.1.now) places

pub record Found : Type 0 where
  pub export : List ℕ
  pub place : ℕ × ℕ

abbrev pub found_at : List ℕ → ℕ × ℕ → Found
found_at name p = record { export = name; place = p }

abbrev pub named_place : Places → List ℕ → List ℕ → Option Found
named_place places from name = option_map (found_at name) (place_of places from name)

abbrev pub original_place : Places → List ℕ → List ℕ → Option Found
original_place places from name = option_and_then (named_place places from) (original_import_name name)

abbrev pub found_place : Places → List ℕ → List ℕ → Option Found
found_place places from name = option_map_or (λ (p : ℕ × ℕ). Some (found_at name p)) (place_of places from name) (original_place places from name)

-- the link of an import whose item is there, if it is a function, and a place was found
abbrev pub link_to : ℕ → Found → LinkView
link_to number found = record { item = number; part = found.place.0; linked = found.place.1; export = found.export }

abbrev pub link_of : ImportValue → PathItem → CountsValue → Places → Option LinkView
link_of i x c places = cond (is_function i.ty && has_item c x) (option_map (link_to (number_of c x)) (found_place places i.module_name i.name)) None

abbrev pub found_view : Bor (List ℕ) × (ℕ × ℕ) → Found
found_view f = found_at f.0.now f.1
