-- Which module has to export which key of a world's exports, where a command doesn't say: the main module, if it has all
-- functions of the key; else the one adapter that has them.
use Rattle.std.specs.Prelude.{◌≡◌, ◌⊎◌, ◌<◌, ◌==◌, ℕ, Bool, true, false, ◌&&◌, ◌||◌, not, List, [], ◌∷◌, ◌++◌, map, filter, length, take, codes, All, IsTrue, Option, Some, None, if◌then◌else◌, string_bytes}
use Rattle.std.specs.List.{AllZip, flat_map}
use Rattle.std.specs.Option.{option_map_or}
use Rattle.wc_read.specs.Fault.{SpellsNothing}
use Rattle.wc_read.specs.Modules.{SpellsModule}
use Rattle.wc_resolve.specs.Kinds.{ResolveView}
use Rattle.wc_adapters.specs.Entries.{Entries}
use Rattle.wc_texts.specs.Escape.{quoted}
use Rattle.wc_names.specs.ExportNames.{world_exports}
use Rattle.wc_selection.specs.Keys.{NamedKey}
use Rattle.wcplan_inputs.specs.Arguments.{CommandView}
use Rattle.wcplan_inputs.specs.Exporters.{AreExportNames, KeyFunctions, first_lacking, key_functions}
use Rattle.wc_options.specs.Listing.{listing_text, most_listed}
use Rattle.wcplan_inputs.specs.declared.exporter_fault.ExporterFault.{ExporterFault}
use Rattle.wcplan_inputs.specs.declared.exporter_fault.ExporterFault.TheVariants.{Memory, NoExporter, SeveralExporters}

-- what a world exports, and whether names of the older scheme are refused
pub record ExportScope : Type 0 where
  pub resolve : ResolveView
  pub exports : Entries
  pub rejects : Bool

-- a key by its text, with its functions
pub record AskedKey : Type 0 where
  pub text : List ℕ
  pub functions : KeyFunctions
  pub rejects : Bool

abbrev pub asked_key : ExportScope → NamedKey → AskedKey
asked_key s k = record { text = k.1; functions = key_functions s.resolve s.exports k; rejects = s.rejects }

-- an adapter by its name, with the names of its exports; none, if it is no module
abbrev pub NamedAdapter : Type 0
NamedAdapter = List ℕ × Option (List (List ℕ))

-- the names of the exports of the main module and of adapters
pub record ModuleNames : Type 0 where
  pub main : List (List ℕ)
  pub adapters : List NamedAdapter

-- a module with exports of these names has all functions of a key
abbrev pub lacks : AskedKey → List (List ℕ) → Option (List ℕ)
lacks q names = first_lacking names q.rejects q.functions

abbrev pub has_all : AskedKey → List (List ℕ) → Bool
has_all q names = option_map_or (λ (function : List ℕ). false) (lacks q names) true

unfoldable pub has_key : AskedKey → NamedAdapter → Bool
has_key q a = option_map_or (has_all q) a.1 false

-- the adapters that have all functions of a key
abbrev pub exporters : AskedKey → List NamedAdapter → List (List ℕ)
exporters q adapters = map (λ (a : NamedAdapter). a.0) (filter (has_key q) adapters)

-- the main module has them, or one adapter alone does
abbrev pub is_shared : ModuleNames → AskedKey → Bool
is_shared x q = has_all q x.main || length (exporters q x.adapters) == 1

-- adapters by their names, each with the text of a key
abbrev pub named_pairs : List ℕ → List (List ℕ) → List (List ℕ × List ℕ)
named_pairs text names = map (λ (name : List ℕ). (name, text)) names

-- the adapter that has to export a key, with the key's text; none, if the main module has to
abbrev pub shared_pairs : ModuleNames → AskedKey → List (List ℕ × List ℕ)
shared_pairs x q = if has_all q x.main then [] else named_pairs q.text (exporters q x.adapters)

-- the names of the exports of a main module, and of adapters with these names and bytes
abbrev pub IsNamedFile : List ℕ × List ℕ → NamedAdapter → Type 0
IsNamedFile file a = (a.0 ≡ file.0) × AreExportNames file.1 a.1

pub record AreNamesOf (main : List ℕ) (files : List (List ℕ × List ℕ)) (x : ModuleNames) : Type 0 where
  pub main_names : AreExportNames main (Some x.main)
  pub adapter_names : AllZip IsNamedFile files x.adapters

-- keys are shared among modules, each adapter's after its name
pub record AreShared (s : ExportScope) (main : List ℕ) (files : List (List ℕ × List ℕ)) (keys : List NamedKey) (pairs : List (List ℕ × List ℕ)) : Type 0 where
  pub names : ModuleNames
  pub named : AreNamesOf main files names
  pub each : All (λ k. IsTrue (is_shared names (asked_key s k))) keys
  pub pairs_are : pairs ≡ flat_map (λ k. shared_pairs names (asked_key s k)) keys

-- a command leaves the keys to its modules: it has adapters, and says the keys of none
abbrev pub is_open : CommandView → Bool
is_open c = length c.exports == 0 && (length c.adapter_exports == 0 && not (length c.adapters == 0))

abbrev pub scope_of : CommandView → ResolveView → ℕ → ExportScope
scope_of c r world = record { resolve = r; exports = world_exports r world; rejects = c.reject_legacy_names }

-- keys are shared among modules, each adapter's after its name; all are the main module's, if that is no module
abbrev pub AreSharedAmong : ExportScope → List ℕ → List (List ℕ × List ℕ) → List NamedKey → List (List ℕ × List ℕ) → Type 0
AreSharedAmong s main files keys pairs = (SpellsNothing SpellsModule main × (pairs ≡ [])) ⊎ AreShared s main files keys pairs

-- the keys that adapters have to export: those that a command says; or those that are shared, where it leaves that to its
-- modules
abbrev pub AreGivenIf : Bool → CommandView → ExportScope → List ℕ → List (List ℕ × List ℕ) → List NamedKey → List (List ℕ × List ℕ) → Type 0
AreGivenIf false c s main files keys pairs = pairs ≡ c.adapter_exports
AreGivenIf true c s main files keys pairs = AreSharedAmong s main files keys pairs

abbrev pub AreGiven : CommandView → ExportScope → List ℕ → List (List ℕ × List ℕ) → List NamedKey → List (List ℕ × List ℕ) → Type 0
AreGiven c s main files keys pairs = AreGivenIf (is_open c) c s main files keys pairs

-- what a module lacks of a key, in a line
abbrev pub lack_line : List ℕ → Option (List ℕ) → List ℕ
lack_line importer None = []
lack_line importer (Some function) = codes "\n  " ++ (importer ++ (codes " lacks " ++ quoted function))

abbrev pub adapter_text : List ℕ → List ℕ
adapter_text name = codes "adapter " ++ quoted name

abbrev pub adapter_line_of : AskedKey → List ℕ → Option (List (List ℕ)) → List ℕ
adapter_line_of q name None = codes "\n  " ++ (adapter_text name ++ codes " is no core module")
adapter_line_of q name (Some names) = lack_line (adapter_text name) (lacks q names)

abbrev pub adapter_line : AskedKey → NamedAdapter → List ℕ
adapter_line q a = adapter_line_of q a.0 a.1

-- what the main module and the first adapters lack of a key
abbrev pub lack_lines : ModuleNames → AskedKey → List ℕ
lack_lines x q = lack_line (codes "main") (lacks q x.main) ++ flat_map (adapter_line q) (take most_listed x.adapters)

-- why a key is not shared: no module has all functions of it; or the main module doesn't, and several adapters do
abbrev pub IsUnsharedKey : ModuleNames → AskedKey → ExporterFault → Type 0
IsUnsharedKey x q Memory = Unit {0}
IsUnsharedKey x q (NoExporter key lines) =
    (has_all q x.main ≡ false) × (length (exporters q x.adapters) ≡ 0) × (string_bytes key ≡ q.text) × (string_bytes lines ≡ lack_lines x q)
IsUnsharedKey x q (SeveralExporters key listing) =
    (has_all q x.main ≡ false) × (1 < length (exporters q x.adapters)) × (string_bytes key ≡ q.text)
    × (string_bytes listing ≡ listing_text (exporters q x.adapters))

-- the first key that is not
pub record IsUnshared (s : ExportScope) (x : ModuleNames) (keys : List NamedKey) (f : ExporterFault) : Type 0 where
  pub front : List NamedKey
  pub back : List NamedKey
  pub key : NamedKey
  pub cut : keys ≡ front ++ key ∷ back
  pub shared : All (λ k. IsTrue (is_shared x (asked_key s k))) front
  pub unshared : IsUnsharedKey x (asked_key s key) f

-- among the main module and adapters with these names and bytes
pub record IsUnsharedAmong (s : ExportScope) (main : List ℕ) (files : List (List ℕ × List ℕ)) (keys : List NamedKey) (f : ExporterFault) : Type 0 where
  pub names : ModuleNames
  pub named : AreNamesOf main files names
  pub unshared : IsUnshared s names keys f

-- of a command that leaves the keys to its modules
abbrev pub AreUnshared : CommandView → ExportScope → List ℕ → List (List ℕ × List ℕ) → List NamedKey → ExporterFault → Type 0
AreUnshared c s main files keys Memory = Unit {0}
AreUnshared c s main files keys f = IsTrue (is_open c) × IsUnsharedAmong s main files keys f
