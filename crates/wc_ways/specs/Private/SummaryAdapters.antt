-- What is noted of adapters, one after another.
use Rattle.std.specs.Prelude.{◌≡◌, ◌&&◌, ◌||◌, ℕ, Bool, List, String, is_some, map, not}
use Rattle.std.specs.Map.{lookup}
use Rattle.std.specs.Str.{bytes_eq}
use Rattle.std.specs.declared.alloc.Global.{Global}
use Rattle.wc_maps.specs.Texts.{is_in}
use Rattle.wc_texts.specs.Names.{named_view}
use Rattle.wc_read.specs.Modules.{ModuleValue}
use Rattle.wc_summary.specs.Entries.{EntriesView}
use Rattle.wc_summary.specs.Leads.{found_in}
use Rattle.wc_summary.specs.Notes.{NotesParts}
use Rattle.wc_validate.specs.Validate.{ModuleRecord, module_record}
use Rattle.wc_world.specs.Views.{ComponentWorldView, NamedWorldAdapter}
use Rattle.wc_world.specs.WorldViews.{adapter_entry, world_view}
use Rattle.wc_ways.specs.Imports.{AreAdapterParts, AreInterfacesBy, AreInterfacesOf, AreLibraryParts, ArePartsBy, IsOfWasm}
use Rattle.wc_ways.specs.Tags.{all_key, library_tags}
use Rattle.wc_ways.specs.Words.{WantedFunctions, is_wanted}
use Rattle.wc_ways.specs.Private.AskedKeys.{IsAskedOf}
use Rattle.wc_ways.specs.Originals.{Original, is_wanted_in, original_of}
use Rattle.wc_ways.specs.declared.summary_adapters.Adapter.{Adapter}

-- an adapter, its world and its record
abbrev pub world_of : Adapter → ComponentWorldView
world_of g = world_view g.world.now

abbrev pub entry_of : Adapter → NamedWorldAdapter
entry_of g = adapter_entry (g.name, g.adapter.now)

abbrev pub info_of : Adapter → ModuleRecord
info_of g = module_record g.adapter.now.info

-- all interfaces that the world imports are asked about
abbrev pub IsAskedIn : Adapter → Type 0
IsAskedIn g = IsAskedOf (world_of g) all_key g.keys.now

-- the functions that the main module imports, and that the adapter doesn't have to export whatever it imports
abbrev pub has_named : {X : Type 0} → List (String Global × X) → List ℕ → Bool
has_named entries e = is_some (lookup (bytes_eq e) (map named_view entries))

abbrev pub IsWantedBy : {X : Type 0} → Adapter → List (String Global × X) → Type 0
IsWantedBy g entries = (e : List ℕ) → has_named entries e ≡ is_wanted_in (world_of g) g.name.now (info_of g) e

-- those of these functions that aren't always needed; and of one
abbrev pub AreWanted : {X : Type 0} → List (List ℕ) → WantedFunctions → List (String Global × X) → Type 0
AreWanted always imported entries = (e : List ℕ) → has_named entries e ≡ (not (is_in always e) && is_wanted imported e)

abbrev pub NotesWanted : {X : Type 0} → List (List ℕ) → List ℕ → List (String Global × X) → List (String Global × X) → Type 0
NotesWanted always name old new = (e : List ℕ) → has_named new e ≡ (has_named old e || (not (is_in always e) && bytes_eq e name))

abbrev pub original_in : Adapter → ModuleValue → Original
original_in g m = original_of (world_of g) g.name.now (info_of g) m

-- what is noted of it: by the adapter, by the bytes of its module, by its module, and of a library
abbrev pub NotesAdapter : Adapter → EntriesView → EntriesView → Type 0
NotesAdapter g old new = NotesParts (AreInterfacesBy (world_of g) (entry_of g)) (λ q. ArePartsBy (world_of g) q (entry_of g)) old new

abbrev pub NotesWasm : Adapter → List ℕ → EntriesView → EntriesView → Type 0
NotesWasm g wasm old new =
    NotesParts (IsOfWasm AreInterfacesOf (world_of g) g.name.now (info_of g) wasm) (λ q. IsOfWasm (AreAdapterParts q) (world_of g) g.name.now (info_of g) wasm) old new

abbrev pub NotesOriginal : Original → EntriesView → EntriesView → Type 0
NotesOriginal a old new = NotesParts (AreInterfacesOf a) (λ q. AreAdapterParts q a) old new

abbrev pub NotesLibrary : Adapter → EntriesView → EntriesView → Type 0
NotesLibrary g old new =
    NotesParts (λ found. found ≡ found_in (library_tags (world_of g) (info_of g).imports)) (λ q. AreLibraryParts (world_of g) q (entry_of g)) old new
