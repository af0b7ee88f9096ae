-- What the modules of a component import, by interfaces, where no world says it: the interface of an import is its module's name.
use Rattle.std.specs.Prelude.{◌≡◌, ◌↔◌, ◌⊎◌, ℕ, List, [], ◌++◌, AllPairs, Bool, ◌&&◌, not, Contains, codes, length, map, Option, Some, None}
use Rattle.std.specs.List.{list_any, slice_get}
use Rattle.std.specs.Str.{bytes_eq}
use Rattle.json.specs.Lex.{tokens}
use Rattle.json.specs.Print.{print}
use Rattle.json.specs.Tree.{json_tokens}
use Rattle.wc_maps.specs.Texts.{is_in}
use Rattle.wc_texts.specs.Names.{first_occurrences}
use Rattle.wc_read.specs.Imports.{ImportValue}
use Rattle.wc_read.specs.Names.{GlobalNameValue}
use Rattle.wc_read.specs.Reading.Names.{AreFunctionNames}
use Rattle.wc_read.specs.Decoded.{ItemIndex}
use Rattle.wc_gc.specs.LiveItems.{IsLive}
use Rattle.wc_read.specs.ImportItems.{IsImportItem}
use Rattle.wc_summary.specs.Leads.{Tags, found_in, named_in}
use Rattle.wc_summary.specs.Parts.{AdapterValue, ArePartsOf, IsAdapterPartOf, IsMainPartOf}
use Rattle.wc_summary.specs.Summary.{AdapterPartView, EntryView, IsListedBefore}
use Rattle.wc_summary.specs.SummaryJson.{entries_json}
use Rattle.wc_summary.specs.SummaryLines.{entry_lines}
use Rattle.wc_import_paths.specs.Joined.{AreJoined}
use Rattle.wc_module_ways.specs.Adapters.{AdapterView, Given}
use Rattle.wc_import_paths.specs.MainModules.{MainView, code_of, segments_of, unread, whole}
use Rattle.wc_module_ways.specs.Modules.{AreView, ModulesView, is_of_adapter, is_of_main}
use Rattle.wc_module_ways.specs.Names.{function_pairs, names_under}
use Rattle.wc_module_ways.specs.CoreImports.{AreCoreFound, AreCoreUses}
use Rattle.wc_module_ways.specs.Tags.{tag_if}
use Rattle.wc_module_ways.specs.declared.modules.Modules.{Modules}

-- the interface of each import, if the import belongs to no module of the component
abbrev pub main_tags : List Given → List ImportValue → Tags
main_tags given imports = map (λ (i : ImportValue). tag_if (is_of_main given i) i) imports

-- of an adapter, if the import stays too, since a required export reaches it
abbrev pub IsAdapterTag : AdapterView → ImportValue → ItemIndex → Option (List ℕ) → Type 0
IsAdapterTag a i x tag =
    (IsLive a.required a.code x × (tag ≡ tag_if (is_of_adapter i) i)) ⊎ (¬ (IsLive a.required a.code x) × (tag ≡ None))

pub record AreAdapterTags (a : AdapterView) (tags : Tags) : Type 0 where
  pub sized : length tags ≡ length a.code.imports
  pub at : (k : ℕ) (i : ImportValue) (x : ItemIndex) (tag : Option (List ℕ)) → slice_get a.code.imports k ≡ Some i → IsImportItem a.code.imports k x
      → slice_get tags k ≡ Some tag → IsAdapterTag a i x tag

-- the names of the functions of a main module with these bytes; none, where it can't be followed
abbrev pub AreMainNames : List ℕ → MainView → List GlobalNameValue → Type 0
AreMainNames bytes (whole f) names = AreFunctionNames bytes names
AreMainNames bytes (unread m why) names = names ≡ []

-- the main module imports the function of a name from an adapter, which needn't have it otherwise
abbrev pub is_imported : List ImportValue → List ℕ → List ℕ → Bool
is_imported imports adapter name = list_any (bytes_eq name) (names_under (function_pairs imports) adapter)

abbrev pub is_wanted : List ImportValue → AdapterView → List ℕ → Bool
is_wanted imports a name = not (is_in a.always name) && is_imported imports a.name name

-- an adapter, by the imports of the main module, and the interfaces of its own
abbrev pub adapter_by : List ImportValue → AdapterView → Tags → AdapterValue
adapter_by imports a tags = record {
  name = a.name;
  value = a.code;
  tags = tags;
  required = a.required;
  is_wanted = is_wanted imports a;
}

-- what adapters import of an interface, in their order
abbrev pub ArePartsAt : List ImportValue → List AdapterView → List ℕ → ℕ → List AdapterPartView → Type 0
ArePartsAt imports adapters interface k parts =
    (a : AdapterView) → slice_get adapters k ≡ Some a
    → (tags : Tags) × AreAdapterTags a tags × ArePartsOf tags interface (IsAdapterPartOf interface (adapter_by imports a tags)) parts

abbrev pub AreParts : List ImportValue → List AdapterView → List ℕ → List AdapterPartView → Type 0
AreParts imports adapters interface parts = AreJoined (length adapters) (ArePartsAt imports adapters interface) parts

-- what adapters import of an interface, and then what the other core modules do
pub record AreAllParts (w : ModulesView) (interface : List ℕ) (parts : List AdapterPartView) : Type 0 where
  pub of_adapters : List AdapterPartView
  pub are_of_adapters : AreParts (code_of w.main).imports w.adapters interface of_adapters
  pub of_core : List AdapterPartView
  pub are_of_core : AreCoreUses (code_of w.main).imports w.given w.core interface of_core
  pub are : parts ≡ of_adapters ++ of_core

-- an interface, with what modules import of it; none is known to be imported for its types
pub record IsEntry (w : ModulesView) (e : EntryView) : Type 0 where
  pub main : IsMainPartOf (code_of w.main) (segments_of w.main) (main_tags w.given (code_of w.main).imports) e.0 e.1.main
  pub adapters : AreAllParts w e.0 e.1.adapters
  pub types : e.1.types ≡ None

-- the interfaces of which adapters import something, of each in the order of its imports, each once
abbrev pub AreFoundAt : List AdapterView → ℕ → List (List ℕ) → Type 0
AreFoundAt adapters k names = (a : AdapterView) → slice_get adapters k ≡ Some a → (tags : Tags) × AreAdapterTags a tags × (names ≡ found_in tags)

abbrev pub AreFound : List AdapterView → List (List ℕ) → Type 0
AreFound adapters names = AreJoined (length adapters) (AreFoundAt adapters) names

-- what modules import: all interfaces, each once, are the main module's, those of the adapters, and those of the other core modules
pub record AreEntries (w : ModulesView) (entries : List EntryView) : Type 0 where
  pub found : List (List ℕ)
  pub are_found : AreFound w.adapters found
  pub core : List (List ℕ)
  pub are_core : AreCoreFound w.given w.core core
  pub names : List (List ℕ)
  pub are_names : names ≡ first_occurrences (named_in (main_tags w.given (code_of w.main).imports) ++ (found ++ core))
  pub each : (e : EntryView) → Contains entries e → IsEntry w e
  pub all : (name : List ℕ) → Contains (map (λ (e : EntryView). e.0) entries) name ↔ Contains names name
  pub ordered : AllPairs (IsListedBefore names) entries

-- as lines, and as JSON, in a line: it is read back as this JSON
abbrev pub IsImportsText : ModulesView → List ℕ → Type 0
IsImportsText w text =
    (names : List GlobalNameValue) × (entries : List EntryView) × AreMainNames w.bytes w.main names × AreEntries w entries × (text ≡ entry_lines names entries)

abbrev pub IsImportsJson : ModulesView → List ℕ → Type 0
IsImportsJson w text =
    (names : List GlobalNameValue) × (entries : List EntryView) × AreMainNames w.bytes w.main names × AreEntries w entries
    × (text ≡ print (json_tokens (entries_json names entries)) ++ codes "\n")
    × (tokens (print (json_tokens (entries_json names entries))) ≡ json_tokens (entries_json names entries))

-- of modules that were read
abbrev pub IsImportsTextIn : Modules → List ℕ → Type 0
IsImportsTextIn p text = (w : ModulesView) → AreView p w → IsImportsText w text

abbrev pub IsImportsJsonIn : Modules → List ℕ → Type 0
IsImportsJsonIn p text = (w : ModulesView) → AreView p w → IsImportsJson w text
