-- The modules as parts of a component: the main module, then each adapter, and then each other core module.
use Rattle.std.specs.Prelude.{◌≡◌, ◌⊎◌, ℕ, ◌+◌, true, All, Contains, List, ◌∷◌, ◌++◌, map, Some}
use Rattle.std.specs.List.{slice_get}
use Rattle.wc_read.specs.Exports.{ExportValue}
use Rattle.wc_read.specs.Imports.{ImportValue}
use Rattle.wc_paths.specs.Items.{CountsValue, has_item}
use Rattle.wc_paths.specs.Numbers.{number_of}
use Rattle.wc_paths.specs.Roots.{export_item, import_item}
use Rattle.wc_why.specs.Part.{LinkView, PartView}
use Rattle.wc_import_paths.specs.MainModules.{IsMainPart, MainView, code_of}
use Rattle.wc_import_paths.specs.Parts.{IsAdapterPart}
use Rattle.wc_import_paths.specs.Roots.{exports_named}
use Rattle.wc_module_ways.specs.Adapters.{AdapterView}
use Rattle.wc_component_file.specs.Renamed.{original_import_name}
use Rattle.wc_module_ways.specs.CoreModules.{CoreView}
use Rattle.wc_module_ways.specs.CoreParts.{IsPartOfCore}
use Rattle.wc_module_ways.specs.Matched.{AreMatched}
use Rattle.wc_module_ways.specs.Names.{is_function}
use Rattle.wc_module_ways.specs.Servers.{ServerView, servers_of}

-- the exports that an adapter has to have whatever the main module imports, in the order in which they are required
abbrev pub always_exports : AdapterView → List ExportValue
always_exports a = exports_named a.code.exports a.always

-- a module serves an export under its name
pub record IsServing (servers : List ServerView) (from name : List ℕ) (index : ℕ) (s : ServerView) (e : ExportValue) : Type 0 where
  pub server : slice_get servers index ≡ Some s
  pub of_name : s.name ≡ from
  pub export : Contains s.exports e
  pub named : e.name ≡ name
  pub there : has_item s.counts (export_item e) ≡ true

-- the export of a name that is looked for is that of this name; where none has it, that of the name before its version
abbrev pub IsFoundAs : List ServerView → List ℕ → List ℕ → List ℕ → Type 0
IsFoundAs servers from name found =
    (found ≡ name)
    ⊎ (((index : ℕ) (s : ServerView) (e : ExportValue) → ¬ (IsServing servers from name index s e)) × (original_import_name name ≡ Some found))

-- a function that is imported is such an export of the module at a position
pub record IsServed (servers : List ServerView) (i : ImportValue) (index : ℕ) (s : ServerView) (e : ExportValue) : Type 0 where
  pub function : is_function i.ty ≡ true
  pub found : IsFoundAs servers i.module_name i.name e.name
  pub serving : IsServing servers i.module_name e.name index s e

-- the link from the item of such an import to the item of the export
pub record IsLink (imports : List ImportValue) (c : CountsValue) (servers : List ServerView) (l : LinkView) : Type 0 where
  pub position : ℕ
  pub import : ImportValue
  pub is_import : slice_get imports position ≡ Some import
  pub index : ℕ
  pub server : ServerView
  pub export : ExportValue
  pub served : IsServed servers import index server export
  pub item : l.item ≡ number_of c (import_item imports position import)
  pub part : l.part ≡ index + 1
  pub linked : l.linked ≡ number_of server.counts (export_item export)
  pub name : l.export ≡ export.name

-- there are links alone, and each such import has one
pub record AreLinks (imports : List ImportValue) (c : CountsValue) (servers : List ServerView) (links : List LinkView) : Type 0 where
  pub each : All (IsLink imports c servers) links
  pub all : (k : ℕ) (i : ImportValue) (index : ℕ) (s : ServerView) (e : ExportValue) → slice_get imports k ≡ Some i → IsServed servers i index s e
      → has_item c (import_item imports k i) ≡ true → Contains (map (λ (l : LinkView). l.item) links) (number_of c (import_item imports k i))

-- the part of each adapter, in order
abbrev pub IsPartOfAdapter : AdapterView → PartView → Type 0
IsPartOfAdapter a p = IsAdapterPart a.name a.code a.bytes (always_exports a) p

abbrev pub AreAdapterParts : List AdapterView → List PartView → Type 0
AreAdapterParts adapters parts = AreMatched IsPartOfAdapter adapters parts

-- the part of the main module, with these links
abbrev pub with_links : PartView → List LinkView → PartView
with_links p links = record {
  name = p.name;
  counts = p.counts;
  size = p.size;
  names = p.names;
  begins = p.begins;
  links = links;
  bytes = p.bytes;
  calling = p.calling;
}

pub record AreParts (main : MainView) (bytes : List ℕ) (adapters : List AdapterView) (cores : List CoreView) (parts : List PartView) : Type 0 where
  pub first : PartView
  pub is_first : IsMainPart bytes main first
  pub links : List LinkView
  pub are_links : AreLinks (code_of main).imports first.counts (servers_of adapters cores) links
  pub others : List PartView
  pub are_others : AreAdapterParts adapters others
  pub core : List PartView
  pub are_core : AreMatched (IsPartOfCore (code_of main).imports) cores core
  pub are : parts ≡ with_links first links ∷ (others ++ core)
