-- What is noted of interfaces that the world imports under several names.
use Rattle.std.specs.Prelude.{◌≡◌, ℕ, ◌∷◌, [], List, cond, map, Option, Some, None}
use Rattle.std.specs.List.{list_any}
use Rattle.std.specs.Option.{option_and_then}
use Rattle.std.specs.Str.{bytes_eq}
use Rattle.wc_summary.specs.Entries.{EntriesView, Lists, interfaces_of, no_parts, parts_of}
use Rattle.wc_summary.specs.Summary.{PartsView, main_view, part_view}
use Rattle.wc_summary.specs.declared.summary.AdapterPart.{AdapterPart}
use Rattle.wc_summary.specs.declared.summary.MainPart.{MainPart}
use Rattle.wc_world.specs.Views.{ComponentWorldView, ImportedView}
use Rattle.wc_ways.specs.Imports.{first_name, leader, shared_in, with_modules}

-- what modules import
abbrev pub modules_in : MainPart → List AdapterPart → PartsView
modules_in main adapters = record { main = main_view main; adapters = map part_view adapters; types = None }

-- of a name what modules import under another; it is listed, if that is: what needs the types stays
abbrev pub listed_with : EntriesView → List ℕ → List ℕ → List (List ℕ)
listed_with entries from to = cond (list_any (bytes_eq from) (interfaces_of entries)) (to ∷ []) []

pub record Shares (from to : List ℕ) (old new : EntriesView) : Type 0 where
  pub listed : Lists old new (listed_with old from to)
  pub each : (name : List ℕ) → parts_of new name ≡ cond (bytes_eq name to) (with_modules (parts_of old from) (parts_of old name)) (parts_of old name)

-- no module imports anything of a name
pub record IsCleared (to : List ℕ) (old new : EntriesView) : Type 0 where
  pub listed : interfaces_of new ≡ interfaces_of old
  pub each : (name : List ℕ) → parts_of new name ≡ cond (bytes_eq name to) (with_modules no_parts (parts_of old name)) (parts_of old name)

-- of a name under which the world imports an interface what modules import under the first name of that
abbrev pub SharesFirst : Option (List ℕ) → List ℕ → EntriesView → EntriesView → Type 0
SharesFirst None to old new = new ≡ old
SharesFirst (Some from) to old new = Shares from to old new

abbrev pub SharesImport : ComponentWorldView → Option (List ℕ) × ImportedView → EntriesView → EntriesView → Type 0
SharesImport w (None, v) old new = new ≡ old
SharesImport w (Some name, v) old new = SharesFirst (option_and_then (first_name w) v.interface) name old new

-- of each name what modules import under the first of its interface
pub record SharesAll (w : ComponentWorldView) (old new : EntriesView) : Type 0 where
  pub listed : Lists old new (shared_in w (interfaces_of old))
  pub each : (name : List ℕ) → parts_of new name ≡ with_modules (parts_of old (leader w name)) (parts_of old name)
