-- What core modules of a component's file import, by interfaces.
use Rattle.std.specs.Prelude.{◌≡◌, ℕ, Bool, true, false, ◌&&◌, List, ◌++◌, codes, decimal, length, map, Option, Some}
use Rattle.std.specs.List.{range_with_len, slice_get}
use Rattle.std.specs.Option.{option_and_then, option_map, option_to_list}
use Rattle.wc_read.specs.Exports.{ExportValue}
use Rattle.wc_read.specs.Imports.{ImportValue}
use Rattle.wc_read.specs.declared.operators.Space.TheVariants.{Types, Funcs, Tables, Memories, Globals}
use Rattle.wc_segments.specs.Segments.{SegmentsValue}
use Rattle.wc_paths.specs.Callers.{AreReached, is_reached}
use Rattle.wc_paths.specs.PathRoots.{RootView, by_export, by_memory, by_start, by_table, filled_by}
use Rattle.wc_paths.specs.Roots.{export_item, import_item, second_roots}
use Rattle.wc_paths.specs.declared.items.PathItem.{PathItem}
use Rattle.wc_paths.specs.declared.items.PathItem.TheVariants.{Item, Elements, Data}
use Rattle.wc_summary.specs.CoreModules.{CoreValue, IsCorePartOf, LabelValue}
use Rattle.wc_summary.specs.declared.core_modules.LabelKind.{LabelKind}
use Rattle.wc_summary.specs.declared.core_modules.LabelKind.TheVariants.{Wanted, Other, Root}
use Rattle.wc_summary.specs.Leads.{Tags, count_tag, found_in}
use Rattle.wc_summary.specs.Parts.{ArePartsOf, library_part}
use Rattle.wc_summary.specs.Summary.{AdapterPartView}
use Rattle.wc_import_paths.specs.Following.{FollowedView, first_in, graph_in, second_in}
use Rattle.wc_import_paths.specs.Joined.{AreJoined}
use Rattle.wc_import_paths.specs.Roots.{exports_named}
use Rattle.wc_module_ways.specs.Adapters.{Given}
use Rattle.wc_module_ways.specs.CoreModules.{CoreView, followed_core, library_core}
use Rattle.wc_module_ways.specs.CoreParts.{linked_names, unlinked}
use Rattle.wc_module_ways.specs.Modules.{is_of_core}
use Rattle.wc_module_ways.specs.Tags.{tag_if}

-- of each import the interface, if the import belongs to no module of the component, and is no function that nothing leads to
abbrev pub is_live : List Bool → PathItem → Bool
is_live reached (Item Funcs n) = is_reached reached n
is_live reached (Item Types n) = true
is_live reached (Item Tables n) = true
is_live reached (Item Memories n) = true
is_live reached (Item Globals n) = true
is_live reached (Elements n) = true
is_live reached (Data n) = true

abbrev pub live_tag : List Given → List Bool → PathItem → ImportValue → Option (List ℕ)
live_tag given reached x i = tag_if (is_of_core given false i && is_live reached x) i

abbrev pub live_tag_at : List Given → List Bool → List ImportValue → ℕ → Option (List ℕ)
live_tag_at given reached imports k = option_and_then (λ (i : ImportValue). live_tag given reached (import_item imports k i) i) (slice_get imports k)

abbrev pub live_tags : List Given → List Bool → List ImportValue → Tags
live_tags given reached imports = map (live_tag_at given reached imports) (range_with_len 0 (length imports))

-- of a library of each import that belongs to no module of the component
abbrev pub library_tags : List Given → List ImportValue → Tags
library_tags given imports = map (λ (i : ImportValue). tag_if (is_of_core given true i) i) imports

abbrev pub AreCoreTags : List Given → CoreView → Tags → Type 0
AreCoreTags given (followed_core name serves bytes f) tags =
    (reached : List Bool) × AreReached (graph_in f) (first_in f) (second_in f) reached × (tags ≡ live_tags given reached f.code.imports)
AreCoreTags given (library_core name bytes m) tags = tags ≡ library_tags given m.imports

-- where paths may begin, as it is listed: at exports that the main module imports, in the order of these imports; at the others, in the
-- order of the file; at the start function; and at active segments
abbrev pub label_text : RootView → List ℕ
label_text (by_export name) = name
label_text by_start = codes "start"
label_text (by_table index) = codes "fills table " ++ decimal index
label_text (by_memory index) = codes "fills memory " ++ decimal index

abbrev pub export_label : LabelKind → ExportValue → LabelValue
export_label kind e = record { text = e.name; item = export_item e; kind = kind }

abbrev pub root_label : List ℕ → PathItem → LabelValue
root_label text x = record { text = text; item = x; kind = Root }

abbrev pub start_label : ℕ → LabelValue
start_label n = root_label (label_text by_start) (Item Funcs n)

abbrev pub filled_text : SegmentsValue → PathItem → List ℕ
filled_text s x = label_text (filled_by s x)

abbrev pub segment_label : SegmentsValue → PathItem → LabelValue
segment_label s x = root_label (filled_text s x) x

abbrev pub labels_of : List (List ℕ) → FollowedView → List LabelValue
labels_of names f =
    map (export_label Wanted) (exports_named f.code.exports names)
    ++ (map (export_label Other) (unlinked names f.code.exports)
    ++ (option_to_list (option_map start_label f.code.start) ++ map (segment_label f.segments) (second_roots f.segments)))

abbrev pub value_of_core : List (List ℕ) → List ℕ → FollowedView → Tags → CoreValue
value_of_core names name f tags = record { name = name; value = f.code; segments = f.segments; tags = tags; labels = labels_of names f }

-- what a core module imports of an interface, by the imports of the main module
abbrev pub IsCoreUse : List ImportValue → Tags → List ℕ → CoreView → AdapterPartView → Type 0
IsCoreUse imports tags interface (followed_core name serves bytes f) p =
    IsCorePartOf interface (value_of_core (linked_names imports name serves f.code.exports) name f tags) p
IsCoreUse imports tags interface (library_core name bytes m) p = p ≡ library_part name (count_tag interface tags)

-- the same of core modules, in their order
abbrev pub AreCoreUsesAt : List ImportValue → List Given → List CoreView → List ℕ → ℕ → List AdapterPartView → Type 0
AreCoreUsesAt imports given cores interface k parts =
    (c : CoreView) → slice_get cores k ≡ Some c
    → (tags : Tags) × AreCoreTags given c tags × ArePartsOf tags interface (IsCoreUse imports tags interface c) parts

abbrev pub AreCoreUses : List ImportValue → List Given → List CoreView → List ℕ → List AdapterPartView → Type 0
AreCoreUses imports given cores interface parts = AreJoined (length cores) (AreCoreUsesAt imports given cores interface) parts

-- the interfaces of which core modules import something, of each in the order of its imports, each once
abbrev pub AreCoreFoundAt : List Given → List CoreView → ℕ → List (List ℕ) → Type 0
AreCoreFoundAt given cores k names = (c : CoreView) → slice_get cores k ≡ Some c → (tags : Tags) × AreCoreTags given c tags × (names ≡ found_in tags)

abbrev pub AreCoreFound : List Given → List CoreView → List (List ℕ) → Type 0
AreCoreFound given cores names = AreJoined (length cores) (AreCoreFoundAt given cores) names
