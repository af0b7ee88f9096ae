-- The tree of paths as JSON.
use Rattle.std.specs.Prelude.{ℕ, Bool, false, List, [], ◌∷◌, ◌++◌, codes, decimal, drop, map, take, Option, Some, None}
use Rattle.json.specs.Json.{Json, boolean as boolean_json, null, string}
use Rattle.json.specs.Token.{Token, boolean, end_object, key}
use Rattle.wc_texts.specs.Shapes.{Field, array_of, nullable_json, number_json, object_of}
use Rattle.wc_paths.specs.PathRoots.{RootView, by_export, by_start, by_table, by_memory}
use Rattle.wc_paths.specs.declared.items.PathItem.{PathItem}
use Rattle.wc_paths.specs.declared.items.PathItem.TheVariants.{Item, Elements, Data}
use Rattle.wc_segments.specs.Segments.{segment_section_name}
use Rattle.wc_why_text.specs.JsonParts.{fills_json, kind_json, text_or_null}
use Rattle.wc_why_text.specs.ItemTexts.{space_name}
use Rattle.wc_why_text.specs.Ways.{chosen_ways}
use Rattle.wc_why.specs.declared.tree.Unfollowed.{Unfollowed}
use Rattle.wc_why.specs.declared.tree.Unfollowed.TheVariants.{Unreached, Body, Section}
use Rattle.wc_why.specs.Tree.{TreeCallerView, TreeImportView, TreeItemView, TreeModuleView, TreeRootView, TreeView, TreeWayView, begun, exported, unfollowed}
use Rattle.wc_why.specs.declared.tree.Callers.{Callers}

-- where paths begin, each an object whose first member is its kind

abbrev pub named_json : List ℕ → Json
named_json name = object_of ((codes "kind", string (codes "export")) ∷ (codes "name", string name) ∷ [])

abbrev pub begin_json : RootView → Json
begin_json (by_export name) = named_json name
begin_json by_start = kind_json (codes "start")
begin_json (by_table index) = fills_json (codes "table") index
begin_json (by_memory index) = fills_json (codes "memory") index

abbrev pub export_json : List ℕ → Option ℕ → Json
export_json name main =
    object_of ((codes "kind", string (codes "export")) ∷ (codes "name", string name) ∷ (codes "main", nullable_json number_json main) ∷ [])

abbrev pub unread_json : List ℕ → Json
unread_json body = object_of ((codes "kind", string (codes "unread")) ∷ (codes "body", string body) ∷ [])

abbrev pub unfollowed_json : Unfollowed → Json
unfollowed_json Unreached = kind_json (codes "unreached")
unfollowed_json (Body index) = unread_json (codes "body of function " ++ decimal index)
unfollowed_json (Section section) = unread_json (segment_section_name section)

abbrev pub root_json : TreeRootView → Json
root_json (begun root) = begin_json root
root_json (exported name main) = export_json name main
root_json (unfollowed why) = unfollowed_json why

-- an item: its space and index, its name, where its path begins or the item before it, who may call it, and its mark

abbrev pub space_word : PathItem → List ℕ
space_word (Item space index) = space_name space
space_word (Elements index) = codes "elem"
space_word (Data index) = codes "data"

abbrev pub index_of : PathItem → ℕ
index_of (Item space index) = index
index_of (Elements index) = index
index_of (Data index) = index

abbrev pub caller_json : TreeCallerView → Json
caller_json c = object_of ((codes "index", number_json c.index) ∷ (codes "name", text_or_null c.name) ∷ [])

abbrev pub some_callers_json : List TreeCallerView → ℕ → Json
some_callers_json shown count =
    object_of ((codes "first", array_of (map caller_json shown)) ∷ (codes "count", number_json count) ∷ [])

-- those of a module's callers that are there
abbrev pub shown_callers : {C : Type 0} → Callers → List C → List C
shown_callers c list = take c.shown (drop c.start list)

abbrev pub callers_json : List TreeCallerView → Option Callers → Json
callers_json list None = null
callers_json list (Some c) = some_callers_json (shown_callers c list) c.count

abbrev pub only_members : Option Bool → List Field
only_members None = []
only_members (Some mark) = (codes "only", boolean_json mark) ∷ []

-- its tokens, and the end of the item
abbrev pub only_tokens : Option Bool → List Token
only_tokens None = end_object ∷ []
only_tokens (Some mark) = key (codes "only") ∷ boolean mark ∷ end_object ∷ []

abbrev pub item_json : List TreeCallerView → TreeItemView → Json
item_json list i =
    object_of (
    (codes "space", string (space_word i.item)) ∷ (codes "index", number_json (index_of i.item)) ∷ (codes "name", text_or_null i.name)
    ∷ (codes "root", nullable_json number_json i.root) ∷ (codes "from", nullable_json number_json i.from)
    ∷ (codes "callers", callers_json list i.callers) ∷ only_members i.only
    )

abbrev pub module_json : TreeModuleView → Json
module_json m =
    object_of (
    (codes "adapter", text_or_null m.adapter) ∷ (codes "roots", array_of (map root_json m.roots))
    ∷ (codes "items", array_of (map (item_json m.callers) m.items)) ∷ []
    )

-- a path, by its end

abbrev pub import_json : TreeImportView → Json
import_json i = object_of ((codes "module", string i.from) ∷ (codes "name", string i.name) ∷ [])

abbrev pub way_json : TreeWayView → Json
way_json w =
    object_of (
    (codes "interface", text_or_null w.interface) ∷ (codes "name", text_or_null w.name) ∷ (codes "module", nullable_json number_json w.module_index)
    ∷ (codes "item", nullable_json number_json w.item) ∷ (codes "import", nullable_json import_json w.origin) ∷ (codes "type", text_or_null w.ty) ∷ []
    )

abbrev pub tree_json : TreeView → Json
tree_json t =
    object_of (
    (codes "modules", array_of (map module_json t.modules)) ∷ (codes "ways", array_of (map way_json (chosen_ways false t.ways))) ∷ []
    )
