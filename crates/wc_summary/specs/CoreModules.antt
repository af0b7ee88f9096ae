-- What a core module of a component imports of an interface: a module that is followed with its segments, and is not the main module. Of
-- each import the interface to which it belongs is known, if there is one.
use Rattle.std.specs.Prelude.{◌≡◌, ℕ, ◌-◌, ◌^◌, min, Bool, true, false, List, ◌∷◌, [], Contains, filter, length, map, Some}
use Rattle.std.specs.List.{dedup, filter_map, slice_get, sum_by}
use Rattle.std.specs.Str.{bytes_eq}
use Rattle.wc_read.specs.Imports.{ImportValue}
use Rattle.wc_read.specs.Modules.{ModuleValue, module_value}
use Rattle.wc_read.specs.declared.operators.Space.TheVariants.{Funcs}
use Rattle.wc_segments.specs.Segments.{SegmentsValue, segments_value}
use Rattle.wc_graph.specs.Alone.{ArePicked}
use Rattle.wc_graph.specs.Positions.{AreAscending}
use Rattle.wc_paths.specs.Items.{GraphValue, graph_of}
use Rattle.wc_paths.specs.Paths.{IsReachedIn}
use Rattle.wc_paths.specs.Roots.{import_item}
use Rattle.wc_paths.specs.declared.items.PathItem.{PathItem}
use Rattle.wc_paths.specs.declared.items.PathItem.TheVariants.{Item}
use Rattle.wc_summary.specs.Entries.{EntriesView}
use Rattle.wc_summary.specs.Leads.{Tags, count_tag, own_bodies, tags_view}
use Rattle.wc_summary.specs.Notes.{NotesTagged}
use Rattle.wc_summary.specs.Summary.{AdapterPartView}
use Rattle.wc_summary.specs.declared.core_modules.CoreImports.{CoreImports}
use Rattle.wc_summary.specs.declared.core_modules.Label.{Label}
use Rattle.wc_summary.specs.declared.core_modules.LabelKind.{LabelKind}
use Rattle.wc_summary.specs.declared.core_modules.LabelKind.TheVariants.{Wanted, Other, Root}

-- a source: how it is listed, its item, and its kind
pub record LabelValue : Type 0 where
  pub text : List ℕ
  pub item : PathItem
  pub kind : LabelKind

abbrev pub label_value : Label → LabelValue
label_value l = record { text = l.text.now; item = l.item; kind = l.kind }

-- its name, the module with its segments, the interfaces of its imports, and its sources
pub record CoreValue : Type 0 where
  pub name : List ℕ
  pub value : ModuleValue
  pub segments : SegmentsValue
  pub tags : Tags
  pub labels : List LabelValue

abbrev pub core_value : CoreImports → CoreValue
core_value a = record {
  name = a.name.now;
  value = module_value a.code.now;
  segments = segments_value a.segments.now;
  tags = tags_view a.tags.now;
  labels = map label_value a.labels.now;
}

abbrev pub core_graph : CoreValue → GraphValue
core_graph a = graph_of a.value a.segments

-- a path leads from a source to an item
abbrev pub IsReachedBy : CoreValue → LabelValue → PathItem → Type 0
IsReachedBy a l x = IsReachedIn (core_graph a) (l.item ∷ []) x

-- an item is that of an import of the interface
abbrev pub IsImportItemOf : CoreValue → List ℕ → PathItem → Type 0
IsImportItemOf a interface x =
    (k : ℕ) × (i : ImportValue) × (slice_get a.value.imports k ≡ Some i) × (slice_get a.tags k ≡ Some (Some interface)) × (x ≡ import_item a.value.imports k i)

-- a source leads to one; and the one at a position does
abbrev pub LabelLeads : CoreValue → List ℕ → LabelValue → Type 0
LabelLeads a interface l = (x : PathItem) × IsImportItemOf a interface x × IsReachedBy a l x

abbrev pub LabelLeadsAt : CoreValue → List ℕ → ℕ → Type 0
LabelLeadsAt a interface position = (l : LabelValue) × (slice_get a.labels position ≡ Some l) × LabelLeads a interface l

-- a function that some source reaches, and each source that does leads to an import of the interface
pub record IsGoneFrom (a : CoreValue) (interface : List ℕ) (f : ℕ) : Type 0 where
  pub live : (l : LabelValue) × Contains a.labels l × IsReachedBy a l (Item Funcs f)
  pub alone : (l : LabelValue) → Contains a.labels l → IsReachedBy a l (Item Funcs f) → LabelLeads a interface l

-- a kind is the same as another one
abbrev pub is_kind : LabelKind → LabelKind → Bool
is_kind Wanted Wanted = true
is_kind Wanted Other = false
is_kind Wanted Root = false
is_kind Other Wanted = false
is_kind Other Other = true
is_kind Other Root = false
is_kind Root Wanted = false
is_kind Root Other = false
is_kind Root Root = true

-- of the sources at some positions those of a kind; and how they are listed: of equal texts in a row the first
abbrev pub labels_at : LabelKind → List LabelValue → List ℕ → List LabelValue
labels_at kind labels positions = filter (λ (l : LabelValue). is_kind kind l.kind) (filter_map (slice_get labels) positions)

abbrev pub listed_texts : LabelKind → List LabelValue → List ℕ → List (List ℕ)
listed_texts kind labels positions = dedup bytes_eq (map (λ (l : LabelValue). l.text) (labels_at kind labels positions))

-- what it imports of the interface
pub record IsCorePartOf (interface : List ℕ) (a : CoreValue) (p : AdapterPartView) : Type 0 where
  pub named : p.adapter ≡ a.name
  pub followed : p.is_library ≡ false
  pub imports : p.imports ≡ count_tag interface a.tags
  -- the sources that lead there: exports that the main module imports, other exports, and where else paths begin
  pub led : List ℕ
  pub are_led : AreAscending (LabelLeadsAt a interface) led
  pub exports : p.exports ≡ listed_texts Wanted a.labels led
  pub stays : p.stays ≡ listed_texts Other a.labels led
  pub roots : p.roots ≡ listed_texts Root a.labels led
  -- and what is live for these alone, of whose bodies a number of 64 bits counts the bytes
  pub gone : List (ℕ × ℕ)
  pub are_gone : ArePicked (λ (b : ℕ × ℕ). IsGoneFrom a interface b.0) (own_bodies a.value.funcs) gone
  pub functions : p.functions ≡ length gone
  pub bytes : p.bytes ≡ min (sum_by (λ (b : ℕ × ℕ). b.1) gone) (2 ^ 64 - 1)

-- it is noted
abbrev pub NotesCoreModule : CoreValue → EntriesView → EntriesView → Type 0
NotesCoreModule a old new = NotesTagged a.tags (λ interface. IsCorePartOf interface a) old new
