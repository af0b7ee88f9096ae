-- The tree of the paths to targets in a component, as a value.
use Rattle.std.specs.Prelude.{◌≡◌, ◌≢◌, ◌⊎◌, ◌↔◌, ℕ, Bool, true, false, List, [], ◌∷◌, ◌++◌, filter, length, map, nat_eq, take, Contains, Option, Some, None}
use Rattle.std.specs.List.{filter_map, range_with_len, slice_get}
use Rattle.std.specs.Option.{option_map, option_map_or}
use Rattle.wc_graph.specs.Dominators.{IsDominator}
use Rattle.wc_read.specs.Names.{GlobalNameValue}
use Rattle.wc_read.specs.Reading.Names.{AreFunctionNames}
use Rattle.wc_read.specs.declared.operators.Space.TheVariants.{Funcs}
use Rattle.wc_paths.specs.Numbers.{item_at}
use Rattle.wc_paths.specs.declared.items.PathItem.{PathItem}
use Rattle.wc_paths.specs.declared.items.PathItem.TheVariants.{Item, Elements, Data}
use Rattle.wc_why.specs.Graph.{link_at, names_in}
use Rattle.wc_why.specs.Lists.{AreLists, IsRootOf}
use Rattle.wc_why.specs.Part.{LinkView, PartView}
use Rattle.wc_why.specs.Paths.{ArePaths, joined}
use Rattle.wc_why.specs.Texts.{name_at, name_of}
use Rattle.wc_why.specs.Tree.{TreeCallerView, TreeItemView, TreeModuleView, TreeRootView, exported, tree_module_view}
use Rattle.wc_why.specs.declared.component.ComponentTree.{ComponentTree}
use Rattle.wc_why.specs.declared.component.End.{End}
use Rattle.wc_why.specs.declared.component.Target.{Target}
use Rattle.wc_why.specs.declared.tree.Callers.{Callers}

-- the item of a target; and those that were asked for
abbrev pub target_item : Target → ℕ × ℕ
target_item t = (t.part, t.item)

abbrev pub asked_items : List Target → List (ℕ × ℕ)
asked_items ts = map target_item (filter (λ (t : Target). t.is_asked) ts)

-- an item is marked exactly where each path from a root to any target that was asked for goes through it; none is, where nothing is to be
abbrev pub IsMark : List PartView → List (List (ℕ × ℕ)) → List (ℕ × ℕ) → Bool → ℕ × ℕ → Option Bool → Type 0
IsMark parts lists asked false y only = only ≡ None
IsMark parts lists asked true y only = (mark : Bool) × (only ≡ Some mark) × (mark ≡ true ↔ IsDominator (names_in parts) (joined lists) asked y)

-- the positions below a number of the items of a module; so many are before the one at a position
abbrev pub is_in : ℕ → ℕ × ℕ → Bool
is_in p y = nat_eq y.0 p

abbrev pub is_position_in : List (ℕ × ℕ) → ℕ → ℕ → Bool
is_position_in items p k = option_map_or (is_in p) (slice_get items k) false

abbrev pub positions_in : List (ℕ × ℕ) → ℕ → ℕ → List ℕ
positions_in items p n = filter (is_position_in items p) (range_with_len 0 n)

abbrev pub position_in : List (ℕ × ℕ) → ℕ × ℕ → ℕ → ℕ
position_in items y k = length (positions_in items y.0 k)

-- an item of a module, and what is said of it: where a path begins that begins with it; the position of the one before it there; the
-- functions that may call it; its mark
pub record ShownView : Type 0 where
  pub item : PathItem
  pub root : Option TreeRootView
  pub from : Option ℕ
  pub called : List ℕ
  pub only : Option Bool

-- what is before an item: none; an item of its module; or, by a link, an item of another one
abbrev pub IsFirst : PartView → ℕ × ℕ → ShownView → Type 0
IsFirst part y s = (s.from ≡ None) × (s.called ≡ []) × IsRootOf part.begins y.1 s.root

pub record IsAfterOwn (part : PartView) (items : List (ℕ × ℕ)) (j : ℕ) (z : ℕ × ℕ) (s : ShownView) : Type 0 where
  pub from : s.from ≡ Some (position_in items z j)
  pub root : s.root ≡ None
  pub called : s.called ≡ part.calling (item_at part.counts z.1) s.item

pub record IsAfterLink (parts : List PartView) (items : List (ℕ × ℕ)) (j : ℕ) (z y : ℕ × ℕ) (s : ShownView) : Type 0 where
  pub link : LinkView
  pub is : link_at parts z ≡ Some link
  pub leads : (link.part, link.linked) ≡ y
  pub root : s.root ≡ Some (exported link.export (Some (position_in items z j)))
  pub from : s.from ≡ None
  pub called : s.called ≡ []

abbrev pub IsAfter : List PartView → PartView → List (ℕ × ℕ) → ℕ → ℕ × ℕ → ℕ × ℕ → ShownView → Type 0
IsAfter parts part items j z y s =
    ((z.0 ≡ y.0) → IsAfterOwn part items j z s) × ((z.0 ≢ y.0) → IsAfterLink parts items j z y s)

abbrev pub IsFrom : List PartView → PartView → List (ℕ × ℕ) → ℕ × ℕ → Option ℕ → ShownView → Type 0
IsFrom parts part items y None s = IsFirst part y s
IsFrom parts part items y (Some j) s = (z : ℕ × ℕ) × (slice_get items j ≡ Some z) × IsAfter parts part items j z y s

-- the item at a position of the tree
pub record IsShownAt (parts : List PartView) (part : PartView) (items : List (ℕ × ℕ)) (from : List (Option ℕ)) (Marks : ℕ × ℕ → Option Bool → Type 0) (k : ℕ) (s : ShownView) : Type 0 where
  pub y : ℕ × ℕ
  pub before : Option ℕ
  pub is : slice_get items k ≡ Some y
  pub is_before : slice_get from k ≡ Some before
  pub item : s.item ≡ item_at part.counts y.1
  pub only : Marks y s.only
  pub from_it : IsFrom parts part items y before s

-- the items of a module, in the order of the tree
pub record AreShown (parts : List PartView) (p : ℕ) (part : PartView) (items : List (ℕ × ℕ)) (from : List (Option ℕ)) (Marks : ℕ × ℕ → Option Bool → Type 0) (shown : List ShownView) : Type 0 where
  pub each : length shown ≡ length (positions_in items p (length items))
  pub at : (i k : ℕ) (s : ShownView) → slice_get (positions_in items p (length items)) i ≡ Some k → slice_get shown i ≡ Some s
      → IsShownAt parts part items from Marks k s

-- a module of some items, with these names of functions: the roots of these items; of the functions that may call each the first three;
-- and for each item where these are
abbrev pub root_of : ShownView → Option TreeRootView
root_of s = s.root

abbrev pub first_three : ShownView → List ℕ
first_three s = take 3 s.called

abbrev pub roots_of : List ShownView → List TreeRootView
roots_of shown = filter_map root_of shown

abbrev pub callers_of : List ShownView → List ℕ
callers_of shown = joined (map first_three shown)

abbrev pub caller_named : List GlobalNameValue → ℕ → TreeCallerView
caller_named names n = record { index = n; name = name_at names n }

abbrev pub callers_at : ℕ → List ℕ → Option Callers
callers_at start [] = None
callers_at start (n ∷ ns) = Some (record { start = start; shown = length (take 3 (n ∷ ns)); count = length (n ∷ ns) })

abbrev pub laid_item : List GlobalNameValue → List ShownView → ShownView → TreeItemView
laid_item names before s = record {
  item = s.item;
  name = name_of names s.item;
  root = option_map (λ (r : TreeRootView). length (roots_of before)) s.root;
  from = s.from;
  callers = callers_at (length (callers_of before)) s.called;
  only = s.only;
}

pub record IsLaid (names : List GlobalNameValue) (adapter : Option (List ℕ)) (shown : List ShownView) (m : TreeModuleView) : Type 0 where
  pub named : m.adapter ≡ adapter
  pub roots : m.roots ≡ roots_of shown
  pub callers : m.callers ≡ map (caller_named names) (callers_of shown)
  pub each : length m.items ≡ length shown
  pub items : (i : ℕ) (s : ShownView) → slice_get shown i ≡ Some s → slice_get m.items i ≡ Some (laid_item names (take i shown) s)

-- the names of the functions that are shown, as the module's bytes give them; none, where these are no module
abbrev pub function_of : PathItem → List ℕ
function_of (Item Funcs n) = n ∷ []
function_of (Item space n) = []
function_of (Elements n) = []
function_of (Data n) = []

abbrev pub functions_of : ShownView → List ℕ
functions_of s = function_of s.item ++ first_three s

abbrev pub all_functions : List ShownView → List ℕ
all_functions shown = joined (map functions_of shown)

abbrev pub AreNames : List ℕ → List ℕ → List GlobalNameValue → Type 0
AreNames bytes functions names =
    ((all : List GlobalNameValue) × AreFunctionNames bytes all × ((n : ℕ) → Contains functions n → name_at names n ≡ name_at all n))
    ⊎ (((all : List GlobalNameValue) → ¬ (AreFunctionNames bytes all)) × (names ≡ []))

-- the module of a part
pub record IsModuleAt (parts : List PartView) (items : List (ℕ × ℕ)) (from : List (Option ℕ)) (Marks : ℕ × ℕ → Option Bool → Type 0) (p : ℕ) (part : PartView) (m : TreeModuleView) : Type 0 where
  pub shown : List ShownView
  pub are_shown : AreShown parts p part items from Marks shown
  pub names : List GlobalNameValue
  pub are_names : AreNames part.bytes (all_functions shown) names
  pub laid : IsLaid names part.name shown m

pub record AreModules (parts : List PartView) (items : List (ℕ × ℕ)) (from : List (Option ℕ)) (Marks : ℕ × ℕ → Option Bool → Type 0) (ms : List TreeModuleView) : Type 0 where
  pub each : length ms ≡ length parts
  pub at : (p : ℕ) (part : PartView) (m : TreeModuleView) → slice_get parts p ≡ Some part → slice_get ms p ≡ Some m → IsModuleAt parts items from Marks p part m

-- where a target is: the module and the position there of the item at its end
abbrev pub IsEndAt : List (ℕ × ℕ) → Option ℕ → Option End → Type 0
IsEndAt items None end = end ≡ None
IsEndAt items (Some k) end = (e : End) × (y : ℕ × ℕ) × (end ≡ Some e) × (slice_get items k ≡ Some y) × (e.«module» ≡ y.0) × (e.item ≡ position_in items y k)

pub record AreEnds (items : List (ℕ × ℕ)) (ends : List (Option ℕ)) (found : List (Option End)) : Type 0 where
  pub each : length found ≡ length ends
  pub at : (n : ℕ) (end : Option ℕ) (e : Option End) → slice_get ends n ≡ Some end → slice_get found n ≡ Some e → IsEndAt items end e

-- the tree of the paths to targets in a component of these parts
pub record IsComponentTree (parts : List PartView) (targets : List Target) (marked : Bool) (t : ComponentTree) : Type 0 where
  pub lists : List (List (ℕ × ℕ))
  pub are_lists : AreLists parts lists
  pub items : List (ℕ × ℕ)
  pub from : List (Option ℕ)
  pub ends : List (Option ℕ)
  pub paths : ArePaths (names_in parts) lists (map target_item targets) items from ends
  pub modules : AreModules parts items from (IsMark parts lists (asked_items targets) marked) (map tree_module_view t.modules.items)
  pub are_ends : AreEnds items ends t.ends.items
