-- What core modules import, as the code notes it.
use Rattle.std.specs.Prelude.{◌≡◌, ℕ, Bool, List, map, string_bytes, String}
use Rattle.std.specs.declared.alloc.Global.{Global}
use Rattle.wc_read.specs.Imports.{ImportValue}
use Rattle.wc_segments.specs.Segments.{SegmentsValue}
use Rattle.wc_paths.specs.Callers.{AreReached}
use Rattle.wc_paths.specs.declared.items.PathItem.{PathItem}
use Rattle.wc_summary.specs.CoreModules.{NotesCoreModule}
use Rattle.wc_summary.specs.Entries.{EntriesView}
use Rattle.wc_summary.specs.Leads.{Tags}
use Rattle.wc_summary.specs.Notes.{NotesParts, NotesTagged}
use Rattle.wc_import_paths.specs.Following.{FollowedView, first_in, graph_in, second_in}
use Rattle.wc_module_ways.specs.Adapters.{Given}
use Rattle.wc_module_ways.specs.CoreImports.{AreCoreFound, AreCoreTags, AreCoreUses, IsCoreUse, filled_text, live_tags, value_of_core}
use Rattle.wc_module_ways.specs.CoreModules.{CoreView}
use Rattle.wc_module_ways.specs.CoreParts.{linked_names}

-- these texts say what these active segments fill
abbrev pub AreFilled : SegmentsValue → List PathItem → List (String Global) → Type 0
AreFilled s items texts = map string_bytes texts ≡ map (filled_text s) items

-- what a core module imports is noted; what one that is followed does; and what core modules do, in order
abbrev pub NotesCore : List ImportValue → List Given → CoreView → EntriesView → EntriesView → Type 0
NotesCore imports given c old new =
    (tags : Tags) × AreCoreTags given c tags × NotesTagged tags (λ interface. IsCoreUse imports tags interface c) old new

abbrev pub NotesFollowed : List ImportValue → List Given → List ℕ → Bool → FollowedView → EntriesView → EntriesView → Type 0
NotesFollowed imports given name serves f old new =
    (reached : List Bool) × AreReached (graph_in f) (first_in f) (second_in f) reached
    × NotesCoreModule (value_of_core (linked_names imports name serves f.code.exports) name f (live_tags given reached f.code.imports)) old new

abbrev pub NotesCores : List ImportValue → List Given → List CoreView → EntriesView → EntriesView → Type 0
NotesCores imports given cores old new = NotesParts (AreCoreFound given cores) (AreCoreUses imports given cores) old new
