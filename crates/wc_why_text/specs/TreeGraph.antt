-- The tree of paths as a graph, in the language of Graphviz.
use Rattle.std.specs.Prelude.{ℕ, ◌+◌, ◌-◌, Bool, true, false, nat_eq, List, [], ◌∷◌, ◌++◌, codes, cond, decimal, length, take, Option, Some, None}
use Rattle.std.specs.List.{enumerate_from, flat_map, slice_get}
use Rattle.std.specs.Option.{option_map, option_map_or}
use Rattle.wc_texts.specs.Escape.{escaped}
use Rattle.wc_read.specs.declared.operators.Space.{Space}
use Rattle.wc_read.specs.declared.operators.Space.TheVariants.{Funcs}
use Rattle.wc_paths.specs.PathRoots.{RootView, by_export, by_start, by_table, by_memory}
use Rattle.wc_paths.specs.declared.items.PathItem.{PathItem}
use Rattle.wc_paths.specs.declared.items.PathItem.TheVariants.{Item, Elements, Data}
use Rattle.wc_why_text.specs.ItemTexts.{data_text, elements_text, importer_text, item_text, root_text, unfollowed_text}
use Rattle.wc_why_text.specs.Texts.{graph_text}
use Rattle.wc_why_text.specs.Groups.{interfaces_of, ways_of}
use Rattle.wc_why_text.specs.Runs.{Place, first_in, runs_of, source}
use Rattle.wc_why_text.specs.ShortNames.{short_name}
use Rattle.wc_why_text.specs.Ways.{chosen_ways}
use Rattle.wc_why.specs.Tree.{TreeCallerView, TreeItemView, TreeModuleView, TreeRootView, TreeView, TreeWayView, begun, exported, unfollowed}
use Rattle.wc_why_text.specs.TreeJson.{shown_callers}
use Rattle.wc_why.specs.declared.tree.Callers.{Callers}

-- a line of a box, after some characters
abbrev pub line : List ℕ → List ℕ → List ℕ
line before text = before ++ (graph_text text ++ codes "\\l")

-- a line that says how many more there are, if there are any
abbrev pub more_line : List ℕ → ℕ → List ℕ
more_line before count = cond (nat_eq count 0) [] (before ++ (decimal count ++ codes " more\\l"))

-- where a path begins, with a short name

abbrev pub export_text : List ℕ → List ℕ
export_text name = root_text (by_export (short_name name))

abbrev pub begin_text : RootView → List ℕ
begin_text (by_export name) = export_text name
begin_text by_start = root_text by_start
begin_text (by_table index) = root_text (by_table index)
begin_text (by_memory index) = root_text (by_memory index)

abbrev pub short_root : TreeRootView → List ℕ
short_root (begun root) = begin_text root
short_root (exported name main) = export_text name
short_root (unfollowed why) = unfollowed_text why

abbrev pub root_line : List TreeRootView → Option ℕ → List ℕ
root_line roots None = []
root_line roots (Some index) = option_map_or (λ root. line [] (short_root root)) (slice_get roots index) []

-- items, with short names

abbrev pub named_text : Space → ℕ → Option (List ℕ) → List ℕ
named_text space index name = item_text space index (option_map short_name name)

abbrev pub short_item : PathItem → Option (List ℕ) → List ℕ
short_item (Item space index) name = named_text space index name
short_item (Elements index) name = elements_text index
short_item (Data index) name = data_text index

abbrev pub mark_text : Option Bool → List ℕ
mark_text None = []
mark_text (Some false) = []
mark_text (Some true) = codes "* "

abbrev pub item_line : TreeItemView → List ℕ
item_line i = line (mark_text i.only) (short_item i.item i.name)

-- the functions that may call an item

abbrev pub caller_line : TreeCallerView → List ℕ
caller_line c = line (codes "called by ") (named_text Funcs c.index c.name)

abbrev pub some_caller_lines : List TreeCallerView → ℕ → List ℕ
some_caller_lines shown count = flat_map caller_line shown ++ more_line (codes "called by ") (count - length shown)

abbrev pub caller_lines : List TreeCallerView → Option Callers → List ℕ
caller_lines list None = []
caller_lines list (Some c) = some_caller_lines (shown_callers c list) c.count

abbrev pub item_lines : TreeModuleView → TreeItemView → List ℕ
item_lines m i = root_line m.roots i.root ++ (caller_lines m.callers i.callers ++ item_line i)

-- the box of a run: its begin where an item is the first of its run, the lines of its items, and its end where the next item is
-- the first of its own

abbrev pub box_begin : List (List ℕ) → Place → List ℕ
box_begin runs at =
    cond (nat_eq (first_in runs at.0 at.1) at.1)
    (codes "    m" ++ (decimal at.0 ++ (codes "_" ++ (decimal at.1 ++ codes " [label=\""))))
    []

abbrev pub box_end : List (List ℕ) → ℕ → ℕ → List ℕ
box_end runs m k = cond (nat_eq (first_in runs m k) k) (codes "\"];\n") []

abbrev pub box_part : List (List ℕ) → TreeModuleView → Place → TreeItemView → List ℕ
box_part runs v at i = box_begin runs at ++ (item_lines v i ++ box_end runs at.0 (at.1 + 1))

abbrev pub boxes : List (List ℕ) → ℕ → TreeModuleView → List TreeItemView → List ℕ
boxes runs m v items = flat_map (λ (e : ℕ × TreeItemView). box_part runs v (m, e.0) e.1) (enumerate_from 0 items)

-- a cluster for each module

abbrev pub cluster : List (List ℕ) → ℕ → TreeModuleView → List ℕ
cluster runs m v =
    codes "  subgraph cluster_" ++ (decimal m ++ (codes " {\n    label=\"" ++ (graph_text (importer_text v.adapter)
    ++ (codes "\";\n" ++ (boxes runs m v v.items ++ codes "  }\n")))))

abbrev pub clusters : List (List ℕ) → List TreeModuleView → List ℕ
clusters runs modules = flat_map (λ (e : ℕ × TreeModuleView). cluster runs e.0 e.1) (enumerate_from 0 modules)

-- a box for each interface, with at most six names or types, and how many more there are

abbrev pub type_text : Option (List ℕ) → List ℕ
type_text None = codes "types"
type_text (Some ty) = codes "type " ++ escaped ty

abbrev pub way_text : Option (List ℕ) → Option (List ℕ) → List ℕ
way_text None ty = type_text ty
way_text (Some name) ty = escaped name

abbrev pub way_line : TreeWayView → List ℕ
way_line w = line (codes "  ") (way_text w.name w.ty)

abbrev pub group_box : ℕ → List ℕ → List TreeWayView → List ℕ
group_box number interface ways =
    codes "  i" ++ (decimal number ++ (codes " [label=\"" ++ (line [] (escaped interface) ++ (flat_map way_line (take 6 ways)
    ++ (more_line (codes "  and ") (length ways - 6) ++ codes "\", style=bold];\n")))))

abbrev pub group_boxes : List (List ℕ) → (List ℕ → List TreeWayView) → List ℕ
group_boxes interfaces ways = flat_map (λ (e : ℕ × List ℕ). group_box e.0 e.1 (ways e.1)) (enumerate_from 0 interfaces)

-- an arrow to each box from the one with the item that leads there

abbrev pub arrow_text : Place → Place → List ℕ
arrow_text from to =
    codes "  m" ++ (decimal from.0 ++ (codes "_" ++ (decimal from.1 ++ (codes " -> m" ++ (decimal to.0 ++ (codes "_"
    ++ (decimal to.1 ++ codes ";\n")))))))

abbrev pub arrow_from : List (List ℕ) → Option Place → Place → List ℕ
arrow_from runs None to = []
arrow_from runs (Some from) to = arrow_text (from.0, first_in runs from.0 from.1) to

abbrev pub arrow : List (List ℕ) → List TreeRootView → Place → TreeItemView → List ℕ
arrow runs roots at i = cond (nat_eq (first_in runs at.0 at.1) at.1) (arrow_from runs (source at.0 roots i) at) []

abbrev pub item_arrows : List (List ℕ) → ℕ → List TreeRootView → List TreeItemView → List ℕ
item_arrows runs m roots items = flat_map (λ (e : ℕ × TreeItemView). arrow runs roots (m, e.0) e.1) (enumerate_from 0 items)

abbrev pub module_arrows : List (List ℕ) → ℕ → TreeModuleView → List ℕ
module_arrows runs m v = item_arrows runs m v.roots v.items

abbrev pub arrows : List (List ℕ) → List TreeModuleView → List ℕ
arrows runs modules = flat_map (λ (e : ℕ × TreeModuleView). module_arrows runs e.0 e.1) (enumerate_from 0 modules)

-- an arrow to the box of an interface from each box in which a path to it ends, dashed if it is for types

abbrev pub arrow_style : Option (List ℕ) → List ℕ
arrow_style None = codes " [style=dashed]"
arrow_style (Some name) = []

abbrev pub arrow_to : ℕ × ℕ → ℕ → List ℕ → List ℕ
arrow_to from number style =
    codes "  m" ++ (decimal from.0 ++ (codes "_" ++ (decimal from.1 ++ (codes " -> i" ++ (decimal number ++ (style ++ codes ";\n"))))))

abbrev pub arrow_by : List (List ℕ) → ℕ → List ℕ → Option ℕ → Option ℕ → List ℕ
arrow_by runs number style None item = []
arrow_by runs number style (Some m) None = []
arrow_by runs number style (Some m) (Some item) = arrow_to (m, first_in runs m item) number style

abbrev pub end_arrow : List (List ℕ) → ℕ → TreeWayView → List ℕ
end_arrow runs number w = arrow_by runs number (arrow_style w.name) w.module_index w.item

abbrev pub end_arrows : List (List ℕ) → List (List ℕ) → (List ℕ → List TreeWayView) → List ℕ
end_arrows runs interfaces ways = flat_map (λ (e : ℕ × List ℕ). flat_map (end_arrow runs e.0) (ways e.1)) (enumerate_from 0 interfaces)

-- the graph, from left to right; one without paths says so

abbrev pub label_of : List TreeWayView → List ℕ
label_of [] = codes "  label=\"no paths\";\n"
label_of (w ∷ ws) = []

abbrev pub label_text : List TreeWayView → List ℕ
label_text ways = label_of (chosen_ways false ways)

abbrev pub graph_by : List ℕ → List (List ℕ) → List TreeModuleView → List (List ℕ) → (List ℕ → List TreeWayView) → List ℕ
graph_by label runs modules interfaces ways =
    codes "digraph why {\n  rankdir=LR;\n  node [shape=box];\n" ++ (label ++ (clusters runs modules ++ (group_boxes interfaces ways
    ++ (arrows runs modules ++ (end_arrows runs interfaces ways ++ codes "}\n")))))

abbrev pub tree_graph : TreeView → List ℕ
tree_graph t =
    graph_by (label_text t.ways) (runs_of t) t.modules (interfaces_of (chosen_ways true t.ways)) (ways_of (chosen_ways true t.ways))
