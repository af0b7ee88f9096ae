-- What a component imports, by interfaces: which there are, what its modules import of each, and what it takes for it to go.
use Rattle.std.specs.Prelude.{◌≡◌, ◌↔◌, ℕ, Bool, false, List, [], ◌++◌, AllPairs, Contains, MatchOption, cond, map, codes, slice_get, unwrap_or, Option, Some, None}
use Rattle.std.specs.List.{filter_map, find, list_any}
use Rattle.std.specs.Map.{lookup}
use Rattle.std.specs.Option.{option_and_then, option_map, option_map_or}
use Rattle.std.specs.Str.{bytes_eq}
use Rattle.json.specs.Lex.{tokens}
use Rattle.json.specs.Print.{print}
use Rattle.json.specs.Tree.{json_tokens}
use Rattle.wc_texts.specs.Names.{first_occurrences}
use Rattle.wc_read.specs.Modules.{ModuleValue, SpellsModule}
use Rattle.wc_read.specs.Names.{GlobalNameValue}
use Rattle.wc_read.specs.Reading.Names.{AreFunctionNames}
use Rattle.wc_validate.specs.Validate.{ModuleRecord}
use Rattle.wc_adapters.specs.Adapters.{AdapterView, LibraryView}
use Rattle.wc_graph.specs.Positions.{AreAscending}
use Rattle.wc_summary.specs.Leads.{Tags, count_tag, found_in, named_in}
use Rattle.wc_summary.specs.Parts.{AdapterValue, ArePartsOf, IsAdapterPartOf, IsNamer, library_part}
use Rattle.wc_summary.specs.Summary.{AdapterPartView, EntryView, IsListedBefore, MainPartView, PartsView}
use Rattle.wc_summary.specs.SummaryJson.{entries_json}
use Rattle.wc_summary.specs.SummaryLines.{entry_lines}
use Rattle.wc_import_paths.specs.MainModules.{IsMain, MainView, code_of, unread, whole}
use Rattle.wc_world.specs.Views.{ComponentWorldView, ImportedView, NamedWorldAdapter}
use Rattle.wc_ways.specs.Originals.{Original, is_wanted_of, original_of, required_of}
use Rattle.wc_ways.specs.Asked.{asked_names}
use Rattle.wc_ways.specs.Each.{AreEach}
use Rattle.wc_ways.specs.Tags.{all_key, library_tags, tags_in}
use Rattle.wc_ways.specs.Types.{typed_name, user_in}

-- ---- the main module

abbrev pub main_tags : ComponentWorldView → ModuleValue → Tags
main_tags w m = tags_in w w.info.imports m.imports

-- the functions that are reached and name an import of the interface; none, where the module can't be followed
abbrev pub AreNamers : ComponentWorldView → List ℕ → List ℕ → MainView → Type 0
AreNamers w interface by (whole f) = AreAscending (IsNamer f.code f.segments (main_tags w f.code) interface) by
AreNamers w interface by (unread m why) = by ≡ []

abbrev pub IsMainPart : ComponentWorldView → MainView → List ℕ → MainPartView → Type 0
IsMainPart w main interface p = (p.imports ≡ count_tag interface (main_tags w (code_of main))) × AreNamers w interface p.by main

-- ---- an adapter that was trimmed

abbrev pub tags_of : Original → Tags
tags_of a = tags_in a.world a.info.imports a.value.imports

-- as the summary sees it
abbrev pub adapter_of : Original → AdapterValue
adapter_of a = record { name = a.name; value = a.value; tags = tags_of a; required = required_of a; is_wanted = is_wanted_of a }

-- what it imports of the interface
abbrev pub IsAdapterPart : List ℕ → Original → AdapterPartView → Type 0
IsAdapterPart interface a p = IsAdapterPartOf interface (adapter_of a) p

abbrev pub AreAdapterParts : List ℕ → Original → List AdapterPartView → Type 0
AreAdapterParts interface a parts = ArePartsOf (tags_of a) interface (IsAdapterPart interface a) parts

-- ---- a library, of which only its imports are known
abbrev pub AreLibraryParts : ComponentWorldView → List ℕ → NamedWorldAdapter → List AdapterPartView → Type 0
AreLibraryParts w interface y parts =
    ArePartsOf (library_tags w y.1.info.imports) interface (λ p. p ≡ library_part y.0 (count_tag interface (library_tags w y.1.info.imports))) parts

-- ---- what is said of an adapter that was trimmed, by the module that the encoder has

abbrev pub Saying : Type 0 → Type 1
Saying A = Original → List A → Type 0

abbrev pub IsOfWasm : {A : Type 0} → Saying A → ComponentWorldView → List ℕ → ModuleRecord → List ℕ → List A → Type 0
IsOfWasm Is w name info wasm said = (m : ModuleValue) × SpellsModule wasm m × Is (original_of w name info m) said

abbrev pub IsOfTrimmed : {A : Type 0} → Saying A → ComponentWorldView → List ℕ → ModuleRecord → List A → Type 0
IsOfTrimmed Is w name info said = MatchOption (lookup (bytes_eq name) w.encoder.adapters) (said ≡ []) (λ (a : AdapterView). IsOfWasm Is w name info a.wasm said)

-- ---- interfaces that the world imports under several names

-- the interface that the world imports under a name; and the first of the names of that
abbrev pub has_name : List ℕ → Option (List ℕ) × ImportedView → Bool
has_name name x = option_map_or (bytes_eq name) x.0 false

abbrev pub interface_under : ComponentWorldView → List ℕ → Option ℕ
interface_under w name = option_and_then (λ (x : Option (List ℕ) × ImportedView). x.1.interface) (find (has_name name) w.import_map)

abbrev pub first_name : ComponentWorldView → ℕ → Option (List ℕ)
first_name w i = slice_get (asked_names w all_key i) 0

abbrev pub leader : ComponentWorldView → List ℕ → List ℕ
leader w name = unwrap_or (option_and_then (first_name w) (interface_under w name)) name

-- what modules import under that is imported under each name; its types are needed by what needs them
abbrev pub with_modules : PartsView → PartsView → PartsView
with_modules from p = record { main = from.main; adapters = from.adapters; types = p.types }

-- the names whose first one is among these, in the world's order
abbrev pub shared_name : ComponentWorldView → List (List ℕ) → Option (List ℕ) × ImportedView → Option (List ℕ)
shared_name w names x = option_and_then (λ (name : List ℕ). cond (list_any (bytes_eq (leader w name)) names) (Some name) None) x.0

abbrev pub shared_in : ComponentWorldView → List (List ℕ) → List (List ℕ)
shared_in w names = filter_map (shared_name w names) w.import_map

-- ---- the interfaces

-- what an adapter imports of it, and what adapters do, in their order
abbrev pub ArePartsBy : ComponentWorldView → List ℕ → NamedWorldAdapter → List AdapterPartView → Type 0
ArePartsBy w interface y parts =
    MatchOption y.1.library_info (IsOfTrimmed (AreAdapterParts interface) w y.0 y.1.info parts) (λ (l : LibraryView). AreLibraryParts w interface y parts)

abbrev pub AreParts : ComponentWorldView → List ℕ → List NamedWorldAdapter → List AdapterPartView → Type 0
AreParts w interface ys parts = AreEach (ArePartsBy w interface) ys parts

-- what needs its types, if it is imported for these alone
abbrev pub typed_in : ComponentWorldView → List (List ℕ × ℕ)
typed_in w = filter_map (typed_name w all_key) w.import_map

abbrev pub types_of : ComponentWorldView → List ℕ → Option (Option (List ℕ))
types_of w interface = option_map (user_in w) (lookup (bytes_eq interface) (typed_in w))

pub record IsEntry (w : ComponentWorldView) (main_module : MainView) (e : EntryView) : Type 0 where
  pub main : IsMainPart w main_module (leader w e.0) e.1.main
  pub adapters : AreParts w (leader w e.0) w.adapters e.1.adapters
  pub types : e.1.types ≡ types_of w e.0

-- the interfaces of which an adapter imports something, in the order of its imports, each once
abbrev pub AreInterfacesOf : Original → List (List ℕ) → Type 0
AreInterfacesOf a names = names ≡ found_in (tags_of a)

abbrev pub AreInterfacesBy : ComponentWorldView → NamedWorldAdapter → List (List ℕ) → Type 0
AreInterfacesBy w y names =
    MatchOption y.1.library_info (IsOfTrimmed AreInterfacesOf w y.0 y.1.info names) (λ (l : LibraryView). names ≡ found_in (library_tags w y.1.info.imports))

abbrev pub AreInterfacesIn : ComponentWorldView → List NamedWorldAdapter → List (List ℕ) → Type 0
AreInterfacesIn w ys names = AreEach (AreInterfacesBy w) ys names

-- of which the main module does
abbrev pub AreMainInterfaces : ComponentWorldView → MainView → List (List ℕ) → Type 0
AreMainInterfaces w main names = names ≡ named_in (main_tags w (code_of main))

-- all interfaces of which something is imported, each once: the main module's, those of the adapters, those that are imported for
-- their types alone, and further names of these
abbrev pub all_named : ComponentWorldView → List (List ℕ) → List (List ℕ)
all_named w names = names ++ shared_in w (first_occurrences names)

abbrev pub AreInterfaces : ComponentWorldView → MainView → List (List ℕ) → Type 0
AreInterfaces w main names =
    (own adapters : List (List ℕ)) × AreMainInterfaces w main own × AreInterfacesIn w w.adapters adapters
    × (names ≡ first_occurrences (all_named w (own ++ (adapters ++ map (λ (t : List ℕ × ℕ). t.0) (typed_in w)))))

-- what a component imports
pub record AreEntries (w : ComponentWorldView) (entries : List EntryView) : Type 0 where
  pub main : MainView
  pub is_main : IsMain w.encoder.module_bytes [] main
  pub names : List (List ℕ)
  pub are_names : AreInterfaces w main names
  pub each : (e : EntryView) → Contains entries e → IsEntry w main e
  pub all : (name : List ℕ) → Contains (map (λ (e : EntryView). e.0) entries) name ↔ Contains names name
  pub ordered : AllPairs (IsListedBefore names) entries

-- as lines, and as JSON, in a line: it is read back as this JSON
abbrev pub AreMainNames : ComponentWorldView → List GlobalNameValue → Type 0
AreMainNames w names = AreFunctionNames w.encoder.module_bytes names

abbrev pub IsImportsText : ComponentWorldView → List ℕ → Type 0
IsImportsText w text = (names : List GlobalNameValue) × (entries : List EntryView) × AreMainNames w names × AreEntries w entries × (text ≡ entry_lines names entries)

abbrev pub IsImportsJson : ComponentWorldView → List ℕ → Type 0
IsImportsJson w text =
    (names : List GlobalNameValue) × (entries : List EntryView) × AreMainNames w names × AreEntries w entries
    × (text ≡ print (json_tokens (entries_json names entries)) ++ codes "\n")
    × (tokens (print (json_tokens (entries_json names entries))) ≡ json_tokens (entries_json names entries))
