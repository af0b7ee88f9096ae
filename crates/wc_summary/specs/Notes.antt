-- What is noted of each interface where a module is noted.
use Rattle.std.specs.Prelude.{◌≡◌, ℕ, List, Option}
use Rattle.wc_read.specs.Modules.{ModuleValue}
use Rattle.wc_segments.specs.Segments.{SegmentsValue}
use Rattle.wc_summary.specs.Entries.{EntriesView, Lists, no_parts, parts_of, with_adapters, with_main}
use Rattle.wc_summary.specs.Leads.{Tags, count_tag, found_in, named_in}
use Rattle.wc_summary.specs.Parts.{AdapterValue, ArePartsOf, IsAdapterPartOf, IsMainPartOf, library_part}
use Rattle.wc_summary.specs.Summary.{AdapterPartView, MainPartView}

-- what the main module imports is noted, of interfaces of which nothing was
pub record NotesMainModule (m : ModuleValue) (s : Option SegmentsValue) (tags : Tags) (old new : EntriesView) : Type 0 where
  pub listed : Lists old new (named_in tags)
  pub each : (interface : List ℕ) → (main : MainPartView) × IsMainPartOf m s tags interface main
      × (parts_of old interface ≡ no_parts → parts_of new interface ≡ with_main main no_parts)

-- interfaces are listed that are as `AreFound` says, and of each what is as `Are` says is noted
pub record NotesParts (AreFound : List (List ℕ) → Type 0) (Are : List ℕ → List AdapterPartView → Type 0) (old new : EntriesView) : Type 0 where
  pub found : List (List ℕ)
  pub are_found : AreFound found
  pub listed : Lists old new found
  pub each : (interface : List ℕ) → (parts : List AdapterPartView) × Are interface parts × (parts_of new interface ≡ with_adapters parts (parts_of old interface))

-- what a module of these tags imports, of each interface as `Is` says
abbrev pub NotesTagged : Tags → (List ℕ → AdapterPartView → Type 0) → EntriesView → EntriesView → Type 0
NotesTagged tags Is old new = NotesParts (λ found. found ≡ found_in tags) (λ interface. ArePartsOf tags interface (Is interface)) old new

-- what an adapter that is trimmed imports, and what a library does
abbrev pub NotesAdapterModule : AdapterValue → EntriesView → EntriesView → Type 0
NotesAdapterModule a old new = NotesTagged a.tags (λ interface. IsAdapterPartOf interface a) old new

abbrev pub NotesLibraryModule : List ℕ → Tags → EntriesView → EntriesView → Type 0
NotesLibraryModule name tags old new = NotesTagged tags (λ interface p. p ≡ library_part name (count_tag interface tags)) old new
