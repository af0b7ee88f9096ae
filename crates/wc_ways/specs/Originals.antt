-- An adapter as the encoder has it, before it is trimmed; and what is recorded of the imports of a module.
use Rattle.std.specs.Prelude.{ℕ, Bool, ◌&&◌, List, Option, None, is_some, not}
use Rattle.std.specs.Map.{lookup}
use Rattle.std.specs.Option.{option_and_then}
use Rattle.std.specs.Str.{bytes_eq}
use Rattle.wc_read.specs.Modules.{ModuleValue}
use Rattle.wc_names.specs.Views.{ImportView}
use Rattle.wc_validate.specs.Imports.Entries.{InstanceRecord, Records, all_of, names_of}
use Rattle.wc_validate.specs.Imports.Map.{required_in}
use Rattle.wc_validate.specs.Validate.{ModuleRecord}
use Rattle.wc_world.specs.Trimming.{required_names}
use Rattle.wc_world.specs.Views.{ComponentWorldView}
use Rattle.wc_ways.specs.Words.{is_wanted}

-- its name, what the component's world records of it, and its module
pub record Original : Type 0 where
  pub world : ComponentWorldView
  pub name : List ℕ
  pub info : ModuleRecord
  pub value : ModuleValue

abbrev pub original_of : ComponentWorldView → List ℕ → ModuleRecord → ModuleValue → Original
original_of w name info m = record { world = w; name = name; info = info; value = m }

-- an adapter has to have an export whatever the main module imports; the exports are wanted that it imports, and that aren't such
abbrev pub is_always : ModuleRecord → List ℕ → Bool
is_always info export = is_some (lookup (bytes_eq export) info.exports)

abbrev pub is_wanted_in : ComponentWorldView → List ℕ → ModuleRecord → List ℕ → Bool
is_wanted_in w name info export = not (is_always info export) && is_wanted (required_in w.info.imports name) export

abbrev pub is_wanted_of : Original → List ℕ → Bool
is_wanted_of a export = is_wanted_in a.world a.name a.info export

-- the exports for which it was trimmed

abbrev pub required_exports : ComponentWorldView → List ℕ → ModuleRecord → List (List ℕ)
required_exports w name info = required_names (required_in w.info.imports name) info.exports

abbrev pub required_of : Original → List (List ℕ)
required_of a = required_exports a.world a.name a.info

-- what is recorded of an import, by its module and its name
abbrev pub recorded_in : List ℕ → InstanceRecord → Option ImportView
recorded_in name (all_of which) = None
recorded_in name (names_of names) = lookup (bytes_eq name) names

abbrev pub recorded_at : Records → List ℕ → List ℕ → Option ImportView
recorded_at records from name = option_and_then (recorded_in name) (lookup (bytes_eq from) records)
