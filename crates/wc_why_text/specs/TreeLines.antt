-- The lines of a tree of paths. An item is named by the position of its module and its own.
use Rattle.std.specs.Prelude.{ℕ, zero, suc, ◌^◌, ◌+◌, ◌-◌, ◌==◌, min, Bool, true, false, cond, fold, List, [], ◌∷◌, ◌++◌, codes, decimal, length, reverse, Option, Some, None}
use Rattle.std.specs.List.{find, flat_map, slice_get}
use Rattle.std.specs.Option.{option_map, option_map_or}
use Rattle.indexmap.specs.IndexSet.{insert_key}
use Rattle.wc_texts.specs.Escape.{escaped}
use Rattle.wc_read.specs.declared.operators.Space.{Space}
use Rattle.wc_read.specs.declared.operators.Space.TheVariants.{Funcs}
use Rattle.wc_paths.specs.CallLists.{is_call_key as is_place}
use Rattle.wc_paths.specs.PathRoots.{RootView}
use Rattle.wc_paths.specs.declared.items.PathItem.{PathItem}
use Rattle.wc_paths.specs.declared.items.PathItem.TheVariants.{Item, Elements, Data}
use Rattle.wc_why.specs.Tree.{TreeCallerView, TreeImportView, TreeItemView, TreeModuleView, TreeRootView, TreeView, TreeWayView, begun, exported, unfollowed}
use Rattle.wc_why.specs.declared.tree.Callers.{Callers}
use Rattle.wc_why_text.specs.ItemTexts.{data_text, elements_text, import_line, importer_text, item_text, line_of, module_root_text, root_text, unfollowed_text}
use Rattle.wc_why_text.specs.RustNames.{rust_name}
use Rattle.wc_why_text.specs.Runs.{Place, is_among, source}
use Rattle.wc_why_text.specs.Texts.{two_words, word}
use Rattle.wc_why_text.specs.TreeJson.{shown_callers}
use Rattle.wc_why_text.specs.Ways.{is_typed, is_unreached}

-- items, with their names as their author wrote them

abbrev pub named_text : Space → ℕ → Option (List ℕ) → List ℕ
named_text space index name = item_text space index (option_map rust_name name)

abbrev pub name_text : PathItem → Option (List ℕ) → List ℕ
name_text (Item space index) name = named_text space index name
name_text (Elements index) name = elements_text index
name_text (Data index) name = data_text index

-- where a path begins in a module: the name of the module stands before it where modules are parts of a component

abbrev pub begin_text : Bool → Option (List ℕ) → RootView → List ℕ
begin_text false adapter root = root_text root
begin_text true adapter root = importer_text adapter ++ (codes " " ++ module_root_text root)

-- the main module's import of an adapter's export, where the path goes on there

abbrev pub link_line : Option (List ℕ) → List ℕ → Option ℕ → List ℕ
link_line None name main = []
link_line (Some adapter) name None = []
link_line (Some adapter) name (Some import) = import_line None adapter name

abbrev pub export_line : Option (List ℕ) → List ℕ → List ℕ
export_line adapter name = codes "  " ++ (importer_text adapter ++ (codes " exports " ++ (word name ++ codes "\n")))

abbrev pub root_lines : Bool → Option (List ℕ) → TreeRootView → List ℕ
root_lines many adapter (begun root) = line_of (begin_text many adapter root)
root_lines many adapter (exported name main) = link_line adapter name main ++ export_line adapter name
root_lines many adapter (unfollowed why) = line_of (unfollowed_text why)

-- the functions that may call an item: `called by func N NAME` of those that are shown, and how many more there are

abbrev pub caller_line : TreeCallerView → List ℕ
caller_line c = codes "  called by " ++ (named_text Funcs c.index c.name ++ codes "\n")

abbrev pub more_line : ℕ → List ℕ
more_line n = cond (n == 0) [] (codes "  called by " ++ (decimal n ++ codes " more\n"))

abbrev pub some_caller_lines : List TreeCallerView → ℕ → List ℕ
some_caller_lines shown count = flat_map caller_line shown ++ more_line (count - length shown)

abbrev pub caller_lines : List TreeCallerView → Option Callers → List ℕ
caller_lines list None = []
caller_lines list (Some c) = some_caller_lines (shown_callers c list) c.count

-- an import that is its own path has no line of its own: the main module never uses it or isn't followed, or it is a library's

abbrev pub is_on_path : TreeRootView → Bool
is_on_path (begun root) = true
is_on_path (exported name main) = true
is_on_path (unfollowed why) = false

abbrev pub root_at : List TreeRootView → Option ℕ → Option TreeRootView
root_at roots None = None
root_at roots (Some root) = slice_get roots root

abbrev pub has_line_by : Option ℕ → Option TreeRootView → Bool
has_line_by (Some from) root = true
has_line_by None root = option_map_or is_on_path root false

abbrev pub has_line : List TreeRootView → TreeItemView → Bool
has_line roots i = has_line_by i.from (root_at roots i.root)

-- a marked item's line begins with `* `; but on a path for types alone

abbrev pub mark_text : Bool → Option Bool → List ℕ
mark_text typed None = codes "  "
mark_text typed (Some false) = codes "  "
mark_text true (Some true) = codes "  "
mark_text false (Some true) = codes "* "

abbrev pub own_line : Bool → TreeItemView → List ℕ
own_line typed i = mark_text typed i.only ++ (name_text i.item i.name ++ codes "\n")

abbrev pub own_line_of : Bool → List TreeRootView → TreeItemView → List ℕ
own_line_of typed roots i = cond (has_line roots i) (own_line typed i) []

-- the lines of an item: where a path begins there, its callers, and its own

-- how lines are written: whether modules are parts of a component, and whether the path is for types alone
abbrev pub How : Type 0
How = Bool × Bool

abbrev pub begin_lines : Bool → Option (List ℕ) → Option TreeRootView → List ℕ
begin_lines many adapter root = option_map_or (root_lines many adapter) root []

abbrev pub item_lines : How → TreeModuleView → TreeItemView → List ℕ
item_lines how m i =
    begin_lines how.0 m.adapter (root_at m.roots i.root) ++ (caller_lines m.callers i.callers ++ own_line_of how.1 m.roots i)

abbrev pub lines_at : How → List TreeModuleView → Place → List ℕ
lines_at how modules p = option_map_or (λ m. option_map_or (item_lines how m) (slice_get m.items p.1) []) (slice_get modules p.0) []

abbrev pub has_line_at : List TreeModuleView → Place → Bool
has_line_at modules p = option_map_or (λ m. option_map_or (has_line m.roots) (slice_get m.items p.1) false) (slice_get modules p.0) false

-- the items on the path to one, from it back to the one at which it begins. A path is in one module, or in the main module and one
-- other, and has no more items than these have

abbrev pub before : List TreeModuleView → Place → Option Place
before modules p = option_map_or (λ m. option_map_or (source p.0 m.roots) (slice_get m.items p.1) None) (slice_get modules p.0) None

abbrev pub path_back : List TreeModuleView → ℕ → Option Place → List Place
path_back modules zero p = []
path_back modules (suc n) None = []
path_back modules (suc n) (Some p) = p ∷ path_back modules n (before modules p)

abbrev pub items_of : List TreeModuleView → ℕ → ℕ
items_of modules m = option_map_or (λ v. length v.items) (slice_get modules m) 0

abbrev pub most_items : List TreeModuleView → ℕ → ℕ
most_items modules m = min (items_of modules 0 + items_of modules m) (2 ^ 64 - 1)

abbrev pub path_by : List TreeModuleView → Option ℕ → Option ℕ → List Place
path_by modules None item = []
path_by modules (Some m) None = []
path_by modules (Some m) (Some item) = path_back modules (most_items modules m) (Some (m, item))

abbrev pub way_path : List TreeModuleView → TreeWayView → List Place
way_path modules w = path_by modules w.module_index w.item

-- the items of a path, back from its end, that have no line above: those before the first that has one. That one, if there is one, is
-- named in place of all before them
abbrev pub new_items : List Place → List Place → List Place
new_items above [] = []
new_items above (p ∷ path) = cond (is_among above p) [] (p ∷ new_items above path)

abbrev pub shared_item : List Place → List Place → Option Place
shared_item above path = find (is_among above) path

-- `as above to ITEM`, with its module where modules are parts of a component

abbrev pub module_end : Bool → Option (List ℕ) → List ℕ
module_end false adapter = []
module_end true adapter = codes " of " ++ importer_text adapter

abbrev pub above_line : Bool → Option (List ℕ) → TreeItemView → List ℕ
above_line many adapter i = codes "  as above to " ++ (name_text i.item i.name ++ (module_end many adapter ++ codes "\n"))

abbrev pub shared_line : Bool → List TreeModuleView → Option Place → List ℕ
shared_line many modules None = []
shared_line many modules (Some p) = option_map_or (λ m. option_map_or (above_line many m.adapter) (slice_get m.items p.1) []) (slice_get modules p.0) []

-- the import at the end of a path, or what the world itself imports or exports; and the type for which it is

abbrev pub world_line : TreeImportView → List ℕ
world_line i = codes "  " ++ (escaped i.from ++ (codes " " ++ (word i.name ++ codes "\n")))

abbrev pub adapter_at : List TreeModuleView → ℕ → Option (List ℕ)
adapter_at modules m = option_map_or (λ v. v.adapter) (slice_get modules m) None

abbrev pub end_line : Bool → List TreeModuleView → Option ℕ → TreeImportView → List ℕ
end_line many modules None i = world_line i
end_line false modules (Some m) i = []
end_line true modules (Some m) i = import_line (adapter_at modules m) i.from i.name

abbrev pub type_line : List ℕ → List ℕ
type_line name = codes "  type " ++ (word name ++ codes "\n")

abbrev pub import_end : Bool → List TreeModuleView → TreeWayView → List ℕ
import_end many modules w = option_map_or (end_line many modules w.module_index) w.origin []

abbrev pub end_lines : Bool → List TreeModuleView → TreeWayView → List ℕ
end_lines many modules w = import_end many modules w ++ option_map_or type_line w.ty []

-- what a path leads to: `INTERFACE NAME`, `INTERFACE: only its types are used`, or `func N NAME`

abbrev pub import_title : List ℕ → Option (List ℕ) → List ℕ
import_title interface None = word interface ++ codes ": only its types are used"
import_title interface (Some name) = two_words interface name

abbrev pub function_title : Option TreeCallerView → List ℕ
function_title None = []
function_title (Some f) = named_text Funcs f.index f.name

abbrev pub title_by : Option (List ℕ) → Option (List ℕ) → Option TreeCallerView → List ℕ
title_by None name function = function_title function
title_by (Some interface) name function = import_title interface name

abbrev pub title_text : TreeWayView → List ℕ
title_text w = title_by w.interface w.name w.function

-- the lines of a way: what it leads to, the last item that has a line above, the items after it, and its end

abbrev pub way_text : Bool → List TreeModuleView → TreeWayView → Option Place → List Place → List ℕ
way_text many modules w shared items =
    title_text w ++ cond (is_unreached w) (codes ": not reached\n")
    (codes "\n" ++ (shared_line many modules shared ++ (flat_map (lines_at (many, is_typed w) modules) items ++ end_lines many modules w)))

abbrev pub items_after : List TreeModuleView → List Place → TreeWayView → List Place
items_after modules above w = reverse (new_items above (way_path modules w))

abbrev pub way_lines : Bool → List TreeModuleView → List Place → TreeWayView → List ℕ
way_lines many modules above w = way_text many modules w (shared_item above (way_path modules w)) (items_after modules above w)

-- the items that have lines of their own after those of a way
abbrev pub with_line : List TreeModuleView → List Place → Place → List Place
with_line modules above p = cond (has_line_at modules p) (insert_key is_place above p) above

abbrev pub with_lines : List TreeModuleView → List Place → List Place → List Place
with_lines modules above items = fold (with_line modules) above items

abbrev pub lines_after : List TreeModuleView → List Place → TreeWayView → List Place
lines_after modules above w = with_lines modules above (items_after modules above w)

-- the lines of all ways, in order

abbrev pub ways_lines : Bool → List TreeModuleView → List Place → List TreeWayView → List ℕ
ways_lines many modules above [] = []
ways_lines many modules above (w ∷ ws) = way_lines many modules above w ++ ways_lines many modules (lines_after modules above w) ws

abbrev pub tree_lines : Bool → TreeView → List ℕ
tree_lines many t = ways_lines many t.modules [] t.ways
