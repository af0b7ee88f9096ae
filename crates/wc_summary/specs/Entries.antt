-- Interfaces that are listed, each with what is noted of it while the modules of a component are read, one after another.
use Rattle.std.specs.Prelude.{◌≡◌, AllPairs, IsPermutation, ℕ, List, [], ◌∷◌, ◌++◌, map, cond, Option, Some, None, String, slice_get, unwrap_or}
use Rattle.std.specs.Map.{keys_of, lookup}
use Rattle.std.specs.Option.{option_or}
use Rattle.std.specs.Str.{bytes_eq}
use Rattle.std.specs.declared.alloc.Global.{Global}
use Rattle.wc_texts.specs.Names.{first_occurrences}
use Rattle.wc_summary.specs.Summary.{AdapterPartView, EntryView, IsListedBefore, MainPartView, PartsView, entry_view}
use Rattle.wc_summary.specs.declared.summary.Entry.{Entry}

-- interfaces, each with what is noted
abbrev pub EntriesView : Type 0
EntriesView = List EntryView

abbrev pub entries_view : List (String Global × Entry) → EntriesView
entries_view entries = map entry_view entries

-- nothing is noted
abbrev pub no_parts : PartsView
no_parts = record { main = record { imports = 0; by = [] }; adapters = []; types = None }

-- the interfaces, and what is noted of one
abbrev pub interfaces_of : EntriesView → List (List ℕ)
interfaces_of entries = keys_of entries

abbrev pub parts_of : EntriesView → List ℕ → PartsView
parts_of entries interface = unwrap_or (lookup (bytes_eq interface) entries) no_parts

-- interfaces are listed, those last that weren't
abbrev pub Lists : EntriesView → EntriesView → List (List ℕ) → Type 0
Lists old new names = (before : List (List ℕ)) → interfaces_of old ≡ first_occurrences before → interfaces_of new ≡ first_occurrences (before ++ names)

-- an interface is listed, at a place; those that were listed are where they were
pub record IsPlace (interface : List ℕ) (place : ℕ) (old new : EntriesView) : Type 0 where
  pub listed : Lists old new (interface ∷ [])
  pub at : slice_get (interfaces_of new) place ≡ Some interface
  pub grown : (k : ℕ) (name : List ℕ) → slice_get (interfaces_of old) k ≡ Some name → slice_get (interfaces_of new) k ≡ Some name
  pub same : (name : List ℕ) → parts_of new name ≡ parts_of old name

-- what is noted of the interface at a place changes, and nothing else
pub record IsChanged (f : PartsView → PartsView) (place : ℕ) (old new : EntriesView) : Type 0 where
  pub listed : interfaces_of new ≡ interfaces_of old
  pub each : (interface name : List ℕ) → slice_get (interfaces_of old) place ≡ Some interface
      → parts_of new name ≡ cond (bytes_eq name interface) (f (parts_of old name)) (parts_of old name)

-- what the main module imports, what adapters import, and the interface's types
abbrev pub with_main : MainPartView → PartsView → PartsView
with_main main p = record { main = main; adapters = p.adapters; types = p.types }

abbrev pub with_adapters : List AdapterPartView → PartsView → PartsView
with_adapters parts p = record { main = p.main; adapters = p.adapters ++ parts; types = p.types }

abbrev pub with_types : Option (Option (List ℕ)) → PartsView → PartsView
with_types types p = record { main = p.main; adapters = p.adapters; types = option_or p.types types }

-- interfaces in another order: by their ranks, and else as they were
pub record IsSorted (old new : EntriesView) : Type 0 where
  pub same : IsPermutation old new
  pub ordered : AllPairs (IsListedBefore (interfaces_of old)) new
