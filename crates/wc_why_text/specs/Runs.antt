-- The runs of a tree: items of which each but the last leads to the next alone. A graph has a box for each.
use Rattle.std.specs.Prelude.{ℕ, zero, suc, ◌-◌, nat_eq, nat_lt, Bool, false, not, ◌&&◌, cond, List, [], ◌∷◌, ◌++◌, length, map, Option, Some, None}
use Rattle.std.specs.List.{enumerate_from, flat_map, list_any, range_with_len, slice_get}
use Rattle.std.specs.Option.{option_map, option_map_or, unwrap_or}
use Rattle.std.specs.declared.alloc.Global.{Global}
use Rattle.std.specs.declared.vec.Vec.{Vec}
use Rattle.wc_paths.specs.CallLists.{is_call_key as is_place}
use Rattle.wc_why.specs.Tree.{TreeItemView, TreeModuleView, TreeRootView, TreeView, TreeWayView, begun, exported, unfollowed}
use Rattle.wc_why_text.specs.declared.runs.Runs.{Runs}

-- an item of a tree, by the position of its module and its own
abbrev pub Place : Type 0
Place = ℕ × ℕ

abbrev pub is_among : List Place → Place → Bool
is_among places p = list_any (is_place p) places

-- whether an item is the one before another, in its module
abbrev pub is_before : Place → Place → Bool
is_before from item = nat_lt 0 item.1 && (nat_eq from.0 item.0 && nat_eq from.1 (item.1 - 1))

-- the item that leads to another: the one before it on its path; or the import of the main module from which an adapter's root
-- comes, where the path begins there

abbrev pub main_of : TreeRootView → Option ℕ
main_of (begun root) = None
main_of (exported name main) = main
main_of (unfollowed why) = None

abbrev pub main_import : List TreeRootView → Option ℕ → Option ℕ
main_import roots None = None
main_import roots (Some root) = option_map_or main_of (slice_get roots root) None

abbrev pub source_by : ℕ → Option ℕ → Option ℕ → Option Place
source_by m (Some from) main = Some (m, from)
source_by m None main = option_map (λ p. (0, p)) main

abbrev pub source : ℕ → List TreeRootView → TreeItemView → Option Place
source m roots i = source_by m i.from (main_import roots i.root)

-- the items with which runs end, though others may follow: those at which paths end, and those that lead to another item than
-- the next

abbrev pub way_end : Option ℕ → Option ℕ → List Place
way_end None item = []
way_end (Some m) None = []
way_end (Some m) (Some item) = (m, item) ∷ []

abbrev pub way_places : TreeWayView → List Place
way_places w = way_end w.module_index w.item

abbrev pub item_end : Place → Option Place → List Place
item_end item None = []
item_end item (Some from) = cond (is_before from item) [] (from ∷ [])

abbrev pub item_ends : ℕ → List TreeRootView → List TreeItemView → List Place
item_ends m roots items = flat_map (λ (e : ℕ × TreeItemView). item_end (m, e.0) (source m roots e.1)) (enumerate_from 0 items)

abbrev pub module_ends : ℕ → TreeModuleView → List Place
module_ends m v = item_ends m v.roots v.items

abbrev pub tree_ends : TreeView → List Place
tree_ends t = flat_map way_places t.ways ++ flat_map (λ (e : ℕ × TreeModuleView). module_ends e.0 e.1) (enumerate_from 0 t.modules)

-- an item is joined to the one before it, if that leads to it and no run ends with it

abbrev pub follows : (Place → Bool) → Option Place → Place → Bool
follows is_end None item = false
follows is_end (Some from) item = is_before from item && not (is_end from)

abbrev pub is_joined : (Place → Bool) → ℕ → TreeModuleView → ℕ → Bool
is_joined is_end m v k = option_map_or (λ i. follows is_end (source m v.roots i) (m, k)) (slice_get v.items k) false

-- the first item of its run
abbrev pub first_of : (ℕ → Bool) → ℕ → ℕ
first_of joined zero = 0
first_of joined (suc k) = cond (joined (suc k)) (first_of joined k) (suc k)

abbrev pub module_firsts : (Place → Bool) → ℕ → TreeModuleView → List ℕ
module_firsts is_end m v = map (first_of (is_joined is_end m v)) (range_with_len 0 (length v.items))

-- for each module, and each of its items, the first item of its run
abbrev pub runs_under : (Place → Bool) → List TreeModuleView → List (List ℕ)
runs_under is_end modules = map (λ (e : ℕ × TreeModuleView). module_firsts is_end e.0 e.1) (enumerate_from 0 modules)

abbrev pub runs_of : TreeView → List (List ℕ)
runs_of t = runs_under (is_among (tree_ends t)) t.modules

abbrev pub runs_view : Runs → List (List ℕ)
runs_view r = map (λ (v : Vec ℕ Global). v.items) r.firsts.items

-- what is not there is the first of its run
abbrev pub first_in : List (List ℕ) → ℕ → ℕ → ℕ
first_in runs m k = option_map_or (λ firsts. unwrap_or (slice_get firsts k) k) (slice_get runs m) k
