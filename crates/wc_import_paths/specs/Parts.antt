-- Modules as parts of a component: the main module, or a module that stands alone; adapters; and libraries.
use Rattle.std.specs.Prelude.{◌≡◌, ◌<◌, ◌^◌, ℕ, Bool, List, [], ◌∷◌, ◌++◌, cond, Option, Some, None}
use Rattle.std.specs.List.{flat_map}
use Rattle.wc_read.specs.Exports.{ExportValue}
use Rattle.wc_read.specs.Modules.{ModuleValue}
use Rattle.wc_read.specs.declared.operators.Space.TheVariants.{Funcs}
use Rattle.wc_segments.specs.Segments.{SegmentsValue}
use Rattle.wc_paths.specs.Callers.{Calling}
use Rattle.wc_paths.specs.Items.{CountsValue, GraphValue, counts_of, has_item}
use Rattle.wc_paths.specs.Numbers.{item_count, number_of, numbers_in}
use Rattle.wc_paths.specs.PathRoots.{by_export, by_start, filled_by}
use Rattle.wc_paths.specs.Roots.{AreImportItems, export_item, second_roots}
use Rattle.wc_paths.specs.declared.items.PathItem.{PathItem}
use Rattle.wc_paths.specs.declared.items.PathItem.TheVariants.{Item}
use Rattle.wc_why.specs.Part.{BeginView, PartView, calls_none}
use Rattle.wc_why.specs.Tree.{TreeRootView, begun, exported, unfollowed}
use Rattle.wc_why.specs.declared.tree.Unfollowed.{Unfollowed}
use Rattle.wc_why.specs.declared.tree.Unfollowed.TheVariants.{Unreached}
use Rattle.wc_import_paths.specs.Following.{FollowedView, graph_in}
use Rattle.wc_import_paths.specs.Rows.{bare_graph}

-- a root in a list, if its item is there
abbrev pub begin_at : CountsValue → ℕ → Option TreeRootView → PathItem → List BeginView
begin_at c list root x = cond (has_item c x) (record { list = list; item = number_of c x; root = root } ∷ []) []

-- the second list, at exports, in their order; and then at the start function
abbrev pub export_begins : CountsValue → List ExportValue → List BeginView
export_begins c exports = flat_map (λ (e : ExportValue). begin_at c 1 (Some (begun (by_export e.name))) (export_item e)) exports

abbrev pub start_begins : CountsValue → Option ℕ → List BeginView
start_begins c None = []
start_begins c (Some n) = begin_at c 1 (Some (begun by_start)) (Item Funcs n)

-- the third list, at active segments
abbrev pub active_begins : CountsValue → SegmentsValue → List PathItem → List BeginView
active_begins c s items = flat_map (λ (x : PathItem). begin_at c 2 (Some (begun (filled_by s x))) x) items

abbrev pub segment_begins : CountsValue → SegmentsValue → List BeginView
segment_begins c s = active_begins c s (second_roots s)

-- the fourth list, at imports, which say why a path begins there
abbrev pub import_begins : CountsValue → Option TreeRootView → List PathItem → List BeginView
import_begins c root items = flat_map (begin_at c 3 root) items

abbrev pub unreached_begins : CountsValue → Bool → List PathItem → List BeginView
unreached_begins c is_main items = cond is_main (import_begins c (Some (unfollowed Unreached)) items) []

-- the first list, at exports that an adapter has to have whatever the main module imports
abbrev pub required_begins : CountsValue → List ExportValue → List BeginView
required_begins c exports = flat_map (λ (e : ExportValue). begin_at c 0 (Some (exported e.name None)) (export_item e)) exports

-- and at the start function of a module that has to have it whatever the main module imports
abbrev pub required_start : CountsValue → Option ℕ → List BeginView
required_start c None = []
required_start c (Some n) = begin_at c 0 (Some (begun by_start)) (Item Funcs n)

-- a part whose items name what the module's name
pub record IsPartOf (g : GraphValue) (p : PartView) : Type 0 where
  pub counts : p.counts ≡ counts_of g
  pub size : p.size ≡ item_count (counts_of g)
  pub names : (n : ℕ) → n < item_count (counts_of g) → p.names n ≡ numbers_in g n
  pub fits : item_count (counts_of g) < 2 ^ 64

-- a module that is followed, with these items of its imports: they are roots of the main module of a component
abbrev pub followed_begins : FollowedView → Bool → List PathItem → List BeginView
followed_begins f is_main items =
    export_begins (counts_of (graph_in f)) f.exports ++ (start_begins (counts_of (graph_in f)) f.code.start
    ++ (segment_begins (counts_of (graph_in f)) f.segments
    ++ unreached_begins (counts_of (graph_in f)) is_main items))

pub record IsFollowedPart (f : FollowedView) (bytes : List ℕ) (calling : Calling) (is_main : Bool) (p : PartView) : Type 0 where
  pub part : IsPartOf (graph_in f) p
  pub named : p.name ≡ None
  pub items : List PathItem
  pub are_items : AreImportItems f.code.imports items
  pub begins : p.begins ≡ followed_begins f is_main items
  pub links : p.links ≡ []
  pub spelled : p.bytes ≡ bytes
  pub calls : p.calling ≡ calling

-- a main module that can't be followed
pub record IsUnreadPart (m : ModuleValue) (bytes : List ℕ) (why : Unfollowed) (p : PartView) : Type 0 where
  pub part : IsPartOf (bare_graph m) p
  pub named : p.name ≡ None
  pub items : List PathItem
  pub are_items : AreImportItems m.imports items
  pub begins : p.begins ≡ import_begins (counts_of (bare_graph m)) (Some (unfollowed why)) items
  pub links : p.links ≡ []
  pub spelled : p.bytes ≡ bytes
  pub calls : p.calling ≡ calls_none

-- an adapter of this name, with the exports that it has to have whatever the main module imports
pub record IsAdapterPart (name : List ℕ) (m : ModuleValue) (bytes : List ℕ) (always : List ExportValue) (p : PartView) : Type 0 where
  pub part : IsPartOf (bare_graph m) p
  pub named : p.name ≡ Some name
  pub begins : p.begins ≡ required_begins (counts_of (bare_graph m)) always
  pub links : p.links ≡ []
  pub spelled : p.bytes ≡ bytes
  pub calls : p.calling ≡ calls_none

-- a core module of this name that is followed, with its exports that the main module does not import
abbrev pub core_begins : FollowedView → List ExportValue → List BeginView
core_begins f always =
    required_begins (counts_of (graph_in f)) always ++ (required_start (counts_of (graph_in f)) f.code.start
    ++ segment_begins (counts_of (graph_in f)) f.segments)

pub record IsCorePart (name : List ℕ) (f : FollowedView) (bytes : List ℕ) (calling : Calling) (always : List ExportValue) (p : PartView) : Type 0 where
  pub part : IsPartOf (graph_in f) p
  pub named : p.name ≡ Some name
  pub begins : p.begins ≡ core_begins f always
  pub links : p.links ≡ []
  pub spelled : p.bytes ≡ bytes
  pub calls : p.calling ≡ calling

-- a library of this name
pub record IsLibraryPart (name : List ℕ) (m : ModuleValue) (bytes : List ℕ) (p : PartView) : Type 0 where
  pub part : IsPartOf (bare_graph m) p
  pub named : p.name ≡ Some name
  pub items : List PathItem
  pub are_items : AreImportItems m.imports items
  pub begins : p.begins ≡ import_begins (counts_of (bare_graph m)) None items
  pub links : p.links ≡ []
  pub spelled : p.bytes ≡ bytes
  pub calls : p.calling ≡ calls_none
