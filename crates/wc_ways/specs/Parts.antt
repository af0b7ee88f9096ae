-- The parts of a component's world: the main module, adapters as the encoder has them, and libraries; and the links from the main
-- module's imports to the exports of adapters that they are.
use Rattle.std.specs.Prelude.{◌≡◌, ◌&&◌, ℕ, ◌+◌, Bool, false, List, [], ◌∷◌, length, position, MatchOption, Option, Some, None}
use Rattle.std.specs.List.{filter_map, find, range_with_len, slice_get}
use Rattle.std.specs.Map.{lookup}
use Rattle.std.specs.Option.{option_and_then, option_map, option_map_or}
use Rattle.std.specs.Str.{bytes_eq}
use Rattle.wc_adapters.specs.Adapters.{AdapterView, LibraryView}
use Rattle.wc_read.specs.Exports.{ExportValue}
use Rattle.wc_read.specs.Imports.{ImportValue}
use Rattle.wc_read.specs.Modules.{ModuleValue, SpellsModule}
use Rattle.wc_names.specs.ExportViews.{ExportView}
use Rattle.wc_names.specs.Views.{ImportView, adapter_export}
use Rattle.wc_validate.specs.Validate.{ModuleRecord}
use Rattle.wc_paths.specs.Items.{CountsValue, counts_of}
use Rattle.wc_paths.specs.Roots.{export_item, import_item}
use Rattle.wc_paths.specs.declared.items.PathItem.{PathItem}
use Rattle.wc_why.specs.Part.{LinkView, PartView}
use Rattle.wc_import_paths.specs.MainModules.{IsMain, IsMainPart, MainView, code_of, main_graph}
use Rattle.wc_import_paths.specs.Parts.{IsAdapterPart, IsLibraryPart}
use Rattle.wc_import_paths.specs.Rows.{bare_graph}
use Rattle.wc_summary.specs.Leads.{as_number}
use Rattle.wc_world.specs.Views.{ComponentWorldView, NamedWorldAdapter}
use Rattle.wc_ways.specs.Originals.{recorded_at}

-- the bytes of an adapter before it is trimmed, and those of a library
abbrev pub original_bytes : ComponentWorldView → NamedWorldAdapter → List ℕ
original_bytes w y = option_map_or (λ (a : AdapterView). a.wasm) (lookup (bytes_eq y.0) w.encoder.adapters) y.1.wasm

abbrev pub bytes_of : ComponentWorldView → NamedWorldAdapter → List ℕ
bytes_of w y = option_map_or (λ (l : LibraryView). y.1.wasm) y.1.library_info (original_bytes w y)

-- the export of a name: of several the first
abbrev pub export_named : List ExportValue → List ℕ → Option ExportValue
export_named exports name = find (λ (e : ExportValue). bytes_eq name e.name) exports

-- the item of the import of a name from a module: of several the first
abbrev pub is_named : List ℕ → List ℕ → ImportValue → Bool
is_named from name i = bytes_eq from i.module_name && bytes_eq name i.name

abbrev pub is_named_at : List ImportValue → List ℕ → List ℕ → ℕ → Bool
is_named_at imports from name k = option_map_or (is_named from name) (slice_get imports k) false

abbrev pub item_at_import : List ImportValue → ℕ → Option PathItem
item_at_import imports k = option_map (import_item imports k) (slice_get imports k)

-- of those at the first positions
abbrev pub first_named : List ImportValue → List ℕ → List ℕ → ℕ → Option PathItem
first_named imports from name n = option_and_then (item_at_import imports) (find (is_named_at imports from name) (range_with_len 0 n))

abbrev pub item_named : List ImportValue → List ℕ → List ℕ → Option PathItem
item_named imports from name = first_named imports from name (length imports)

-- what an adapter has to export whatever the main module imports: the exports that are recorded of it
abbrev pub always_of : ModuleRecord → ModuleValue → List ExportValue
always_of info m = filter_map (λ (x : List ℕ × ExportView). export_named m.exports x.0) info.exports

-- an adapter or a library as a part
abbrev pub IsPartBy : NamedWorldAdapter → ModuleValue → List ℕ → PartView → Type 0
IsPartBy y m bytes p =
    MatchOption y.1.library_info (IsAdapterPart y.0 m bytes (always_of y.1.info m) p) (λ (l : LibraryView). IsLibraryPart y.0 m bytes p)

pub record IsPartIn (w : ComponentWorldView) (y : NamedWorldAdapter) (m : ModuleValue) (p : PartView) : Type 0 where
  pub spelled : SpellsModule (bytes_of w y) m
  pub is : IsPartBy y m (bytes_of w y) p

-- the number of the item that a module exports under a name
abbrev pub exported_number : ModuleValue → List ℕ → Option ℕ
exported_number m name = option_and_then (λ (e : ExportValue). as_number (counts_of (bare_graph m)) (export_item e)) (export_named m.exports name)

-- the export of an adapter that is recorded of an import: the position of the part, the number of the item there, and its name
abbrev pub Linked : Type 0
Linked = ℕ × (ℕ × List ℕ)

abbrev pub linked_in : ModuleValue → ℕ → List ℕ → Option Linked
linked_in m k func = option_map (λ (n : ℕ). (k + 1, (n, func))) (exported_number m func)

abbrev pub linked_at : List ModuleValue → List ℕ → ℕ → Option Linked
linked_at ms func k = option_and_then (λ (m : ModuleValue). linked_in m k func) (slice_get ms k)

abbrev pub position_of : ComponentWorldView → List ℕ → Option ℕ
position_of w name = position (λ (y : NamedWorldAdapter). bytes_eq name y.0) w.adapters

abbrev pub linked_by : ComponentWorldView → List ModuleValue → ImportView → Option Linked
linked_by w ms (adapter_export adapter func ty) = option_and_then (linked_at ms func) (position_of w adapter)
linked_by w ms import = None

-- the link from an import of the main module to the export of an adapter that is recorded of it
abbrev pub link_from : Option ℕ → Linked → Option LinkView
link_from item l = option_map (λ (n : ℕ). record { item = n; part = l.0; linked = l.1.0; export = l.1.1 }) item

abbrev pub link_of : ComponentWorldView → List ModuleValue → CountsValue → List ImportValue → ℕ → ImportValue → Option LinkView
link_of w ms c imports k i =
    option_and_then (link_from (as_number c (import_item imports k i)))
    (option_and_then (linked_by w ms) (recorded_at w.info.imports i.module_name i.name))

-- all links, in the order of the file: each import that is an export of an adapter has one
abbrev pub link_at : ComponentWorldView → List ModuleValue → CountsValue → List ImportValue → ℕ → Option LinkView
link_at w ms c imports k = option_and_then (link_of w ms c imports k) (slice_get imports k)

abbrev pub links_of : ComponentWorldView → List ModuleValue → CountsValue → List ImportValue → List LinkView
links_of w ms c imports = filter_map (link_at w ms c imports) (range_with_len 0 (length imports))

abbrev pub with_links : List LinkView → PartView → PartView
with_links links p = record {
  name = p.name;
  counts = p.counts;
  size = p.size;
  names = p.names;
  begins = p.begins;
  links = links;
  bytes = p.bytes;
  calling = p.calling;
}

-- how many items of each kind it has
abbrev pub counts_in : MainView → CountsValue
counts_in main = counts_of (main_graph main)

-- the parts of a component: the main module, with its links, and each adapter and library, in order
pub record AreParts (w : ComponentWorldView) (main : MainView) (modules : List ModuleValue) (parts : List PartView) : Type 0 where
  pub is_main : IsMain w.encoder.module_bytes [] main
  pub first : PartView
  pub is_first : IsMainPart w.encoder.module_bytes main first
  pub others : List PartView
  pub each_module : length modules ≡ length w.adapters
  pub each_part : length others ≡ length w.adapters
  pub at : (k : ℕ) (y : NamedWorldAdapter) (m : ModuleValue) (p : PartView) → slice_get w.adapters k ≡ Some y → slice_get modules k ≡ Some m
      → slice_get others k ≡ Some p → IsPartIn w y m p
  pub are : parts ≡ with_links (links_of w modules (counts_in main) (code_of main).imports) first ∷ others
