-- The ends of the paths that are shown: imports, and functions that were asked for by themselves; and the tree of the paths to them.
use Rattle.std.specs.Prelude.{◌≡◌, ℕ, ◌-◌, ◌^◌, Bool, true, false, not, ◌||◌, List, [], ◌∷◌, ◌++◌, cond, length, map, Option, Some, None, is_some}
use Rattle.std.specs.List.{flat_map, range_with_len, slice_get}
use Rattle.std.specs.Option.{option_map, option_map_or}
use Rattle.wc_read.specs.Imports.{ImportValue}
use Rattle.wc_read.specs.declared.operators.Space.TheVariants.{Funcs}
use Rattle.wc_paths.specs.Callers.{AreReached, Calling, IsCalling, is_reached}
use Rattle.wc_paths.specs.Items.{CountsValue, has_item}
use Rattle.wc_paths.specs.Numbers.{number_of}
use Rattle.wc_paths.specs.Roots.{import_item}
use Rattle.wc_paths.specs.declared.items.PathItem.{PathItem}
use Rattle.wc_paths.specs.declared.items.PathItem.TheVariants.{Item}
use Rattle.wc_why.specs.Component.{IsComponentTree}
use Rattle.wc_why.specs.Part.{PartView}
use Rattle.wc_why.specs.Tree.{TreeCallerView, TreeImportView, TreeView, TreeWayView, tree_caller_view, tree_import_view, tree_module_view}
use Rattle.wc_why.specs.declared.component.ComponentTree.{ComponentTree}
use Rattle.wc_why.specs.declared.component.End.{End}
use Rattle.wc_why.specs.declared.component.Target.{Target}
use Rattle.wc_import_paths.specs.Following.{FollowedView, IsFollowed, first_in, graph_in, second_in}
use Rattle.wc_import_paths.specs.Parts.{IsFollowedPart}
use Rattle.wc_import_paths.specs.Patterns.{PatternView, are_asked, is_shown}
use Rattle.wc_import_paths.specs.declared.shown.ShownEnd.{ShownEnd}

-- an item of a part, if a path to it is to be shown, and what is shown of it: an import, or a function
pub record EndView : Type 0 where
  pub part : ℕ
  pub item : Option ℕ
  pub origin : Option TreeImportView
  pub function : Option TreeCallerView

abbrev pub end_view : ShownEnd → EndView
end_view e = record {
  part = e.part;
  item = e.item;
  origin = option_map tree_import_view e.import;
  function = option_map tree_caller_view e.function;
}

-- it is a target; where it is without an item, one whose number no item has
abbrev pub number_in : Option ℕ → ℕ
number_in (Some n) = n
number_in None = 2 ^ 64 - 1

abbrev pub target_of : EndView → Target
target_of e = record { part = e.part; item = number_in e.item; is_asked = true }

-- an import of a part, if its item is there; those of its imports that pass a test, in order
abbrev pub origin_of : ImportValue → TreeImportView
origin_of i = record { from = i.module_name; name = i.name }

abbrev pub import_end : ℕ → CountsValue → ImportValue → PathItem → List EndView
import_end part c i x =
    cond (has_item c x) (record { part = part; item = Some (number_of c x); origin = Some (origin_of i); function = None } ∷ []) []

abbrev pub tested_end : ℕ → CountsValue → (ImportValue → Bool) → List ImportValue → ℕ → ImportValue → List EndView
tested_end part c p imports k i = cond (p i) (import_end part c i (import_item imports k i)) []

abbrev pub import_end_at : ℕ → CountsValue → (ImportValue → Bool) → List ImportValue → ℕ → List EndView
import_end_at part c p imports k = option_map_or (tested_end part c p imports k) (slice_get imports k) []

abbrev pub import_ends : ℕ → CountsValue → (ImportValue → Bool) → List ImportValue → List EndView
import_ends part c p imports = flat_map (import_end_at part c p imports) (range_with_len 0 (length imports))

-- functions of the first part, those that are there; one that is not reached is without its item
abbrev pub item_if : Bool → ℕ → Option ℕ
item_if reached n = cond reached (Some n) None

abbrev pub item_if_reached : CountsValue → List Bool → ℕ → Option ℕ
item_if_reached c reached n = item_if (is_reached reached n) (number_of c (Item Funcs n))

abbrev pub function_end : CountsValue → List Bool → TreeCallerView → List EndView
function_end c reached f =
    cond (has_item c (Item Funcs f.index))
    (record { part = 0; item = item_if_reached c reached f.index; origin = None; function = Some f } ∷ []) []

abbrev pub function_ends : CountsValue → List Bool → List TreeCallerView → List EndView
function_ends c reached fs = flat_map (function_end c reached) fs

-- the way to an end, with where it is in the tree; where no path leads there, there is one to a function, and to an import if it is wanted
abbrev pub module_of : Option TreeImportView → Option (List ℕ)
module_of origin = option_map (λ (i : TreeImportView). i.from) origin

abbrev pub name_of : Option TreeImportView → Option (List ℕ)
name_of origin = option_map (λ (i : TreeImportView). i.name) origin

abbrev pub module_at : ℕ → Option End → ℕ
module_at part end = option_map_or (λ (x : End). x.«module») end part

abbrev pub item_of : Option End → Option ℕ
item_of end = option_map (λ (x : End). x.item) end

abbrev pub way_of : EndView → Option End → TreeWayView
way_of e end = record {
  interface = module_of e.origin;
  function = e.function;
  name = name_of e.origin;
  module_index = Some (module_at e.part end);
  item = item_of end;
  origin = e.origin;
  ty = None;
}

abbrev pub has_way : Bool → EndView → Option End → Bool
has_way unreached e end = is_some end || (unreached || is_some e.function)

abbrev pub ways_of : Bool → EndView → Option End → List TreeWayView
ways_of unreached e end = cond (has_way unreached e end) (way_of e end ∷ []) []

abbrev pub end_at : List (Option End) → ℕ → Option End
end_at ends k = option_map_or (λ (e : Option End). e) (slice_get ends k) None

abbrev pub way_at : Bool → List EndView → List (Option End) → ℕ → List TreeWayView
way_at unreached shown ends k = option_map_or (λ (e : EndView). ways_of unreached e (end_at ends k)) (slice_get shown k) []

abbrev pub ways_in : Bool → List EndView → List (Option End) → List TreeWayView
ways_in unreached shown ends = flat_map (way_at unreached shown ends) (range_with_len 0 (length shown))

-- the tree of the paths to these ends through a component of these parts
pub record IsTreeTo (parts : List PartView) (shown : List EndView) (marked unreached : Bool) (t : TreeView) : Type 0 where
  pub found : ComponentTree
  pub is_tree : IsComponentTree parts (map target_of shown) marked found
  pub modules : t.modules ≡ map tree_module_view found.modules.items
  pub ways : t.ways ≡ ways_in unreached shown found.ends.items

-- what is shown of a module that stands alone: the imports that are asked for, and then these functions; where functions alone are asked
-- for, no imports
abbrev pub are_functions : List TreeCallerView → Bool
are_functions [] = false
are_functions (f ∷ fs) = true

abbrev pub shown_ends : List PatternView → List Bool → List TreeCallerView → CountsValue → List ImportValue → List EndView
shown_ends patterns reached fs c imports =
    cond (are_asked patterns || not (are_functions fs)) (import_ends 0 c (is_shown patterns) imports) [] ++ function_ends c reached fs

-- the tree of the paths to these in a module that stands alone
pub record IsFollowedTree (f : FollowedView) (bytes : List ℕ) (patterns : List PatternView) (fs : List TreeCallerView) (t : TreeView) : Type 0 where
  pub calling : Calling
  pub calls : IsCalling (graph_in f) (first_in f) (second_in f) calling
  pub reached : List Bool
  pub are_reached : AreReached (graph_in f) (first_in f) (second_in f) reached
  pub part : PartView
  pub is_part : IsFollowedPart f bytes calling false part
  pub tree : IsTreeTo (part ∷ []) (shown_ends patterns reached fs part.counts f.code.imports) (are_asked patterns || are_functions fs) (are_asked patterns) t

-- the same of the module that these bytes spell, followed from its exports of these names
pub record IsTreeFor (bytes : List ℕ) (exports : List (List ℕ)) (patterns : List PatternView) (fs : List TreeCallerView) (t : TreeView) : Type 0 where
  pub source : FollowedView
  pub followed : IsFollowed bytes exports source
  pub is_tree : IsFollowedTree source bytes patterns fs t
