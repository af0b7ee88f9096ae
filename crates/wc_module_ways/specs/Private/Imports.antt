-- What modules import, as the code notes it.
use Rattle.std.specs.Prelude.{◌≡◌, ℕ, List, [], ◌∷◌, Bool, ◌&&◌, ◌||◌, not, is_some, map, Option, Some, None, String}
use Rattle.std.specs.List.{list_any}
use Rattle.std.specs.Map.{lookup}
use Rattle.std.specs.Str.{bytes_eq}
use Rattle.std.specs.declared.alloc.Global.{Global}
use Rattle.wc_read.specs.Imports.{ImportValue}
use Rattle.wc_gc.specs.LiveChains.{AreImportChains}
use Rattle.wc_gc.specs.declared.import_chains.ImportChains.{ImportChains}
use Rattle.wc_summary.specs.Entries.{EntriesView}
use Rattle.wc_summary.specs.Leads.{Tags}
use Rattle.wc_summary.specs.Notes.{NotesAdapterModule, NotesMainModule, NotesParts}
use Rattle.wc_maps.specs.Texts.{is_in}
use Rattle.wc_texts.specs.Names.{named_view}
use Rattle.wc_import_paths.specs.MainModules.{MainView, code_of, segments_of}
use Rattle.wc_module_ways.specs.Adapters.{AdapterView, Given}
use Rattle.wc_module_ways.specs.Imports.{AreAdapterTags, AreFound, AreParts, adapter_by, main_tags}
use Rattle.wc_module_ways.specs.Tags.{tag_if}
use Rattle.wc_module_ways.specs.NameLists.{AreListed, NameLists}
use Rattle.wc_module_ways.specs.Names.{function_pairs}
use Rattle.wc_module_ways.specs.Modules.{is_of_adapter}

-- what a main module imports is noted
abbrev pub NotesMainOf : MainView → List Given → EntriesView → EntriesView → Type 0
NotesMainOf v given old new = NotesMainModule (code_of v) (segments_of v) (main_tags given (code_of v).imports) old new

-- what adapters import is noted, in order
abbrev pub NotesAdaptersOf : List ImportValue → List AdapterView → EntriesView → EntriesView → Type 0
NotesAdaptersOf imports adapters old new = NotesParts (AreFound adapters) (AreParts imports adapters) old new

-- the chains from what is required of an adapter were found
abbrev pub AreChainsOf : AdapterView → ImportChains → Type 0
AreChainsOf a chains = AreImportChains a.required a.code chains

-- what an adapter imports is noted, by the functions that the main module imports
abbrev pub NotesThis : List ImportValue → AdapterView → EntriesView → EntriesView → Type 0
NotesThis imports a old new = (tags : Tags) × AreAdapterTags a tags × NotesAdapterModule (adapter_by imports a tags) old new

abbrev pub NotesFor : NameLists → AdapterView → EntriesView → EntriesView → Type 0
NotesFor lists a old new = (imports : List ImportValue) → AreListed (function_pairs imports) lists → NotesThis imports a old new

-- names, but those that are always needed, are the keys of a map
abbrev pub has_key : List (String Global × Unit {0}) → List ℕ → Bool
has_key entries name = is_some (lookup (bytes_eq name) (map named_view entries))

abbrev pub AreWanted : List (List ℕ) → List (List ℕ) → List (String Global × Unit {0}) → Type 0
AreWanted always names entries = (e : List ℕ) → has_key entries e ≡ (not (is_in always e) && list_any (bytes_eq e) names)

-- a name was noted
abbrev pub NotesWanted : List ℕ → List (String Global × Unit {0}) → List (String Global × Unit {0}) → Type 0
NotesWanted name old new = (e : List ℕ) → has_key new e ≡ (has_key old e || bytes_eq e name)

-- the interface of an import of an adapter whose item is at a position among those that stay; and those of all
abbrev pub tag_at : Option ℕ → ImportValue → Option (List ℕ)
tag_at None i = None
tag_at (Some p) i = tag_if (is_of_adapter i) i

abbrev pub tags_at : List ImportValue → List (Option ℕ) → Tags
tags_at [] positions = []
tags_at (i ∷ is) [] = []
tags_at (i ∷ is) (p ∷ ps) = tag_at p i ∷ tags_at is ps
