-- How the imports of a module are renamed so that no two share a module and a name.
use Rattle.std.specs.Prelude.{◌≡◌, ℕ, ◌<◌, ◌≤◌, ◌⊎◌, ◌&&◌, Bool, cond, List, [], ◌∷◌, ◌++◌, length, map, codes, decimal, Option, Some, None}
use Rattle.std.specs.List.{Contains, slice_get}
use Rattle.std.specs.Option.{option_and_then, option_map_or}
use Rattle.std.specs.Str.{bytes_eq}
use Rattle.wc_read.specs.Imports.{ImportValue}

-- an import by its module and its name, as bytes
pub record ImportName : Type 0 where
  pub module_name : List ℕ
  pub name : List ℕ

-- the names of imports
abbrev pub import_name : ImportValue → ImportName
import_name i = record { module_name = i.module_name; name = i.name }

abbrev pub originals : List ImportValue → List ImportName
originals is = map import_name is

-- an original name with a number after it: ` [v`, the number in decimal, `]`
abbrev pub name_with_number : List ℕ → ℕ → List ℕ
name_with_number original n = original ++ (codes " [v" ++ (decimal n ++ codes "]"))

-- the name is the name of one of these imports
abbrev pub IsGiven : List ImportName → List ℕ → List ℕ → Type 0
IsGiven given m n = Contains given (record { module_name = m; name = n })

-- the original name with the least number from 2 with which it is not in P
pub record IsLeastNumberedName (P : List ℕ → Type 0) (original name : List ℕ) : Type 0 where
  pub number : ℕ
  pub from_two : 2 ≤ number
  pub spelled : name ≡ name_with_number original number
  pub free : ¬ P name
  pub least : (k : ℕ) → 2 ≤ k → k < number → P (name_with_number original k)

-- the name for an original name, where P says which names are taken: the original name itself where it is free, else
-- the original name with a number
abbrev pub IsNameFor : (List ℕ → Type 0) → List ℕ → List ℕ → Type 0
IsNameFor P original name = ((¬ P original) × (name ≡ original)) ⊎ (P original × IsLeastNumberedName P original name)

-- the name of one import after these names, of which those of its module are taken
abbrev pub NamesOne : List ImportName → ImportName → ImportName → Type 0
NamesOne given s n = (n.module_name ≡ s.module_name) × IsNameFor (IsGiven given s.module_name) s.name n.name

-- the names of a list of imports, each after these names and those of the imports before it
abbrev pub Renamed : List ImportName → List ImportName → List ImportName → Type 0
Renamed given [] names = names ≡ []
Renamed given (s ∷ ss) [] = ⊥
Renamed given (s ∷ ss) (n ∷ ns) = NamesOne given s n × Renamed (given ++ n ∷ []) ss ns

-- a renamed import: its module, its original name and its name now
pub record RenameView : Type 0 where
  pub module_name : List ℕ
  pub original : List ℕ
  pub name : List ℕ

-- the imports whose name differs from their original name, in order
abbrev pub renames_of : List ImportName → List ImportName → List RenameView
renames_of [] ns = []
renames_of (s ∷ ss) [] = []
renames_of (s ∷ ss) (n ∷ ns) =
    cond (bytes_eq s.name n.name) (renames_of ss ns) ((record { module_name = s.module_name; original = s.name; name = n.name }) ∷ renames_of ss ns)

-- whether this is a rename to this name in this module
abbrev pub is_rename_to : List ℕ → List ℕ → RenameView → Bool
is_rename_to m n r = bytes_eq r.module_name m && bytes_eq r.name n

-- the original name of the import of this name, where it was renamed
abbrev pub original_in : List RenameView → List ℕ → List ℕ → Option (List ℕ)
original_in [] m n = None
original_in (r ∷ rs) m n = cond (is_rename_to m n r) (Some r.original) (original_in rs m n)

-- the name that an import has, by the index of its rename
abbrev pub renamed_name : List RenameView → List ℕ → Option ℕ → List ℕ
renamed_name rs original index = option_map_or (λ (r : RenameView). r.name) (option_and_then (slice_get rs) index) original

-- the names that imports have, by the indices of their renames
abbrev pub renamed_names : List RenameView → List ImportName → List (Option ℕ) → List ImportName
renamed_names rs [] ps = []
renamed_names rs (s ∷ ss) [] = []
renamed_names rs (s ∷ ss) (p ∷ ps) = (record { module_name = s.module_name; name = renamed_name rs s.name p }) ∷ renamed_names rs ss ps

-- the imports with the names that they have, by the indices of their renames
abbrev pub renamed_import : List RenameView → ImportValue → Option ℕ → ImportValue
renamed_import rs i p = record { module_name = i.module_name; name = renamed_name rs i.name p; ty = i.ty }

abbrev pub renamed_imports : List RenameView → List ImportValue → List (Option ℕ) → List ImportValue
renamed_imports rs [] ps = []
renamed_imports rs (i ∷ is) [] = []
renamed_imports rs (i ∷ is) (p ∷ ps) = renamed_import rs i p ∷ renamed_imports rs is ps

-- the renaming of imports of these names: the names are renamed from the original names, and the renames are the imports
-- whose names differ
pub record IsRenaming (names : List ImportName) (indices : List (Option ℕ)) (renames : List RenameView) : Type 0 where
  pub as_long : length indices ≡ length names
  pub renamed : Renamed [] names (renamed_names renames names indices)
  pub listed : renames ≡ renames_of names (renamed_names renames names indices)
