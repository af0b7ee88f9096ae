-- The modules of a component's world, as the code has them.
use Rattle.std.specs.Prelude.{◌≡◌, ◌&&◌, ℕ, Bool, List, [], is_some, length, map, Some}
use Rattle.std.specs.Borrow.{Bor}
use Rattle.std.specs.List.{slice_get}
use Rattle.std.specs.Map.{lookup}
use Rattle.std.specs.Option.{option_map}
use Rattle.std.specs.Str.{bytes_eq}
use Rattle.wc_read.specs.Exports.{ExportValue, export_value}
use Rattle.wc_read.specs.Imports.{ImportValue}
use Rattle.wc_read.specs.Modules.{ModuleValue, SpellsModule, module_value}
use Rattle.wc_read.specs.declared.exports.Export.{Export}
use Rattle.wc_validate.specs.Validate.{module_record}
use Rattle.wc_import_paths.specs.MainModules.{IsMainOf, code_of, main_view}
use Rattle.wc_import_paths.specs.Rows.{AreRowsFor, bare_graph}
use Rattle.wc_paths.specs.Roots.{import_item}
use Rattle.wc_paths.specs.declared.items.PathItem.{PathItem}
use Rattle.wc_world.specs.Views.{ComponentWorldView, NamedWorldAdapter}
use Rattle.wc_ways.specs.Parts.{bytes_of, export_named, first_named, item_named}
use Rattle.wc_ways.specs.declared.modules.AdapterModule.{AdapterModule}
use Rattle.wc_ways.specs.declared.modules.Modules.{Modules}

-- exports by their names
abbrev pub ByName : Type 0
ByName = List (Bor (List ℕ) × Export)

abbrev pub is_name : Bor (List ℕ) → Bor (List ℕ) → Bool
is_name q k = bytes_eq q.now k.now

abbrev pub AreByName : List ExportValue → ByName → Type 0
AreByName exports entries = (q : Bor (List ℕ)) → option_map export_value (lookup (is_name q) entries) ≡ export_named exports q.now

-- items of imports by their modules and names
abbrev pub Key : Type 0
Key = Bor (List ℕ) × Bor (List ℕ)

abbrev pub is_key : Key → Key → Bool
is_key q k = bytes_eq q.0.now k.0.now && bytes_eq q.1.now k.1.now

abbrev pub Places : Type 0
Places = List (Key × PathItem)

-- an import of a module, and its item
abbrev pub IsImportAt : List ImportValue → ℕ → ImportValue → PathItem → Type 0
IsImportAt imports n i item = (slice_get imports n ≡ Some i) × (item ≡ import_item imports n i)

-- of the first imports
abbrev pub AreFirstPlaces : List ImportValue → ℕ → Places → Type 0
AreFirstPlaces imports n entries = (q : Key) → lookup (is_key q) entries ≡ first_named imports q.0.now q.1.now n

abbrev pub ArePlaces : List ImportValue → Places → Type 0
ArePlaces imports entries = (q : Key) → lookup (is_key q) entries ≡ item_named imports q.0.now q.1.now

-- an adapter or a library of the world, with these bytes
pub record IsModuleWith (y : NamedWorldAdapter) (spelt : List ℕ) (a : AdapterModule) : Type 0 where
  pub name : a.name.now ≡ y.0
  pub library : a.is_library ≡ is_some y.1.library_info
  pub info : module_record a.info.now ≡ y.1.info
  pub bytes : a.bytes.now ≡ spelt
  pub spelled : SpellsModule spelt (module_value a.code)
  pub exports : AreByName (module_value a.code).exports a.exports.entries
  pub places : ArePlaces (module_value a.code).imports a.places.entries
  pub rows : AreRowsFor (bare_graph (module_value a.code)) a.rows

-- its exports and what its items name are those of its module
pub record IsRead (a : AdapterModule) : Type 0 where
  pub exports : AreByName (module_value a.code).exports a.exports.entries
  pub rows : AreRowsFor (bare_graph (module_value a.code)) a.rows

abbrev pub IsAdapterModule : ComponentWorldView → NamedWorldAdapter → AdapterModule → Type 0
IsAdapterModule w y a = IsModuleWith y (bytes_of w y) a

-- those of all adapters, in order
pub record AreAdapterModules (w : ComponentWorldView) (ys : List NamedWorldAdapter) (modules : List AdapterModule) : Type 0 where
  pub each : length modules ≡ length ys
  pub at : (k : ℕ) (y : NamedWorldAdapter) (a : AdapterModule) → slice_get ys k ≡ Some y → slice_get modules k ≡ Some a → IsAdapterModule w y a

pub record AreModulesOf (w : ComponentWorldView) (m : Modules) : Type 0 where
  pub main : IsMainOf w.encoder.module_bytes [] m.main
  pub places : ArePlaces (code_of (main_view m.main)).imports m.places.entries
  pub adapters : AreAdapterModules w w.adapters m.adapters.items

abbrev pub code_in : AdapterModule → ModuleValue
code_in a = module_value a.code

abbrev pub codes_in : Modules → List ModuleValue
codes_in m = map code_in m.adapters.items
