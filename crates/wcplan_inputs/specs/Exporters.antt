-- Which functions of a key of a world's exports a module has, by the names of its exports.
use Rattle.std.specs.Prelude.{ℕ, Bool, false, ◌&&◌, ◌||◌, not, List, [], ◌∷◌, ◌++◌, map, find, codes, Option, Some, None}
use Rattle.std.specs.Option.{option_map_or}
use Rattle.wc_read.specs.Exports.{ExportValue}
use Rattle.wc_read.specs.Fault.{SpellsNothing}
use Rattle.wc_read.specs.Modules.{ModuleValue, SpellsModule}
use Rattle.wc_resolve.specs.Kinds.{ResolveView}
use Rattle.wc_resolve.specs.Names.{track}
use Rattle.wc_resolve.specs.Resolve.{core_name, key_text}
use Rattle.wc_resolve.specs.Views.{ItemView, function_item, interface_item}
use Rattle.wc_adapters.specs.Entries.{Entries}
use Rattle.wc_names.specs.Keys.{item_under}
use Rattle.wc_selection.specs.Keys.{NamedKey}
use Rattle.wc_maps.specs.Texts.{HasTexts, is_in}
use Rattle.wcplan_inputs.specs.Nearest.{function_names}

-- the names of the exports of the module that bytes are; none, if they are no module
abbrev pub export_name : ExportValue → List ℕ
export_name e = e.name

abbrev pub AreExportNames : List ℕ → Option (List (List ℕ)) → Type 0
AreExportNames bytes None = SpellsNothing SpellsModule bytes
AreExportNames bytes (Some names) = (m : ModuleValue) × SpellsModule bytes m × HasTexts (map export_name m.exports) names

-- the functions of a key, and the text of their interface, if they are of one: in the older scheme, and in the standard one,
-- in which that of the world itself is empty
pub record KeyFunctions : Type 0 where
  pub interface : Option (List ℕ)
  pub canonical : Option (List ℕ)
  pub functions : List (List ℕ)

abbrev pub functions_under : ResolveView → NamedKey → Option ItemView → KeyFunctions
functions_under r k (Some (interface_item i external)) =
    record { interface = Some k.1; canonical = key_text track r k.0; functions = function_names r i }
functions_under r k (Some (function_item f)) = record { interface = None; canonical = Some []; functions = k.1 ∷ [] }
functions_under r k item = record { interface = None; canonical = None; functions = [] }

-- those of a key of what a world exports
abbrev pub key_functions : ResolveView → Entries → NamedKey → KeyFunctions
key_functions r exports k = functions_under r k (item_under exports k.0)

-- the name of the export of a function: in the standard scheme `cm32p2|T|F`; in the older one `T#F` or `F`, which may be
-- after how it is lifted
abbrev pub standard_name : List ℕ → List ℕ → List ℕ
standard_name text function = codes "cm32p2|" ++ (text ++ (codes "|" ++ function))

abbrev pub is_legacy_in : List (List ℕ) → List ℕ → Bool
is_legacy_in names name = is_in names name || (is_in names (codes "[async-lift]" ++ name) || is_in names (codes "[async-lift-stackful]" ++ name))

abbrev pub is_standard_in : List (List ℕ) → List ℕ → List ℕ → Bool
is_standard_in names function text = is_in names (standard_name text function)

-- one of some names is that of a function of a key; those of the older scheme don't count where they are refused
unfoldable pub is_exported : List (List ℕ) → Bool → KeyFunctions → List ℕ → Bool
is_exported names rejects k function =
    option_map_or (is_standard_in names function) k.canonical false || (not rejects && is_legacy_in names (core_name k.interface function))

-- the first function of a key that a module with exports of these names doesn't have
abbrev pub first_lacking : List (List ℕ) → Bool → KeyFunctions → Option (List ℕ)
first_lacking names rejects k = find (λ function. not (is_exported names rejects k function)) k.functions
